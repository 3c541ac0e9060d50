-- `listing::put_listing` meets its contract: what reading, opening and playing give decides the text (proofs/Stages.antt).
use Rattle.std.proofs.Common.{refl, Ok, Err}
use Rattle.refusals.specs.Number.{code_of}
use Rattle.refusals.proofs.Told.{never_0}
use Rattle.file.specs.Format.{reading_of}
use Rattle.file_play.specs.Play.{played}
use Rattle.listing.proofs.Stages.{reading_refused, Opened, opening_refused, PlayedInto, record_refused, book_listed, book_ready}
use Rattle.listing.proofs.put_listing.Goals as goal
use Rattle.listing.proofs.put_listing.Goals.{In-Err-opening, In-Err-play, In_default-play}

-- what reading and opening gave
unopened : (c : In-Err-opening)
    → Opened c.args.file.now (reading_of (Ok c.in-Ok.contents)) c.never_opened-book.result
    (record { book = c.opening.new.book; number = code_of c.in-Err-opening.refusal }) c.opening.new.log
unopened c = record { read = c.in-Ok.ensures; fine = refl; opens = c.in-Err-opening.ensures }

-- and what playing gave
stopped : (c : In-Err-play)
    → PlayedInto c.args.file.now (reading_of (Ok c.in-Ok.contents)) c.never_opened-book.result (record { book = c.opening.new.book; number = 0 }) c.opening.new.log
    c.play.new.book (played (Err c.in-Err-play.stopped)) c.play.new.log
stopped c = record { opening = record { read = c.in-Ok.ensures; fine = refl; opens = rw c.in_default.is at c.opening.ensures }; opened = refl; plays = c.in-Err-play.ensures }

whole : (c : In_default-play)
    → PlayedInto c.args.file.now (reading_of (Ok c.in-Ok.contents)) c.never_opened-book.result (record { book = c.opening.new.book; number = 0 }) c.opening.new.log
    c.play.new.book (played (Ok c.in_default-play.field-0)) c.play.new.log
whole c = record { opening = record { read = c.in-Ok.ensures; fine = refl; opens = rw c.in_default.is at c.opening.ensures }; opened = refl; plays = rw c.in_default-play.is at c.play.ensures }

pub returns-in-Err-clause-written : goal.returns-in-Err-clause-written
returns-in-Err-clause-written c = rw (reading_refused c.args.file.now c.in-Err.ensures (never_0 c.in-Err.refusal)) c.put_refused_file.ensures.written

pub returns-in-Err-opening-clause-written : goal.returns-in-Err-opening-clause-written
returns-in-Err-opening-clause-written c =
    rw (opening_refused (unopened (goal.at.returns-in-Err-opening-clause-written c).In-Err-opening) (never_0 c.in-Err-opening.refusal))
    c.put_refused_file-in-Err-opening.ensures.written

pub returns-in-Err-play-clause-written : goal.returns-in-Err-play-clause-written
returns-in-Err-play-clause-written c =
    rw (record_refused (stopped (goal.at.returns-in-Err-play-clause-written c).In-Err-play) (never_0 c.in-Err-play.stopped.refusal))
    c.put_refused_record.ensures.written

pub put_book-requires-clause-readable : goal.put_book-requires-clause-readable
put_book-requires-clause-readable c = book_ready (whole (goal.at.put_book-requires-clause-readable c).In_default-play) refl

pub returns-clause-written : goal.returns-clause-written
returns-clause-written c = rw (book_listed (whole (goal.at.returns-clause-written c).In_default-play) refl) c.put_book.ensures.written
