-- `book::opening` meets its contract where nothing is refused: the log is cleared and the book is fresh.
use mathlib.Core.Path.{◌≡◌, sym, ◌∙◌}
use Rattle.numbers.proofs.Checks.{first_next, last_passes}
use Rattle.book_time.specs.Time.{emptied}
use Rattle.book.specs.Calls.{opening_number_of, opening_by_number, opening_of}
use Rattle.book.proofs.opening.Goals as goal

pub returns : goal.returns
unfolding opening_of opening_by_number opening_number_of emptied
returns c =
    let taken : opening_number_of c.args.s c.args.log.now ≡ 0 = first_next _ _ (sym c.in_ok-judge.ensures) ∙ last_passes 6 (sym c.has_room.ensures ∙ c.if-not-has_room.false) in
    rw taken (record { answered = rw (c.freshen.ensures, c.start-book.ensures, c.fitting-book.ensures); logged = c.clear.ensures })
