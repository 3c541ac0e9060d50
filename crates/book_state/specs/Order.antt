-- Number 1 (RULES 7): whether a book's fields are in their ranges and its walks within their
-- steps. A book that was never opened is out of range: its n is 0.
use Rattle.std.specs.Prelude.{Bool, ◌&&◌, replicate}
use Rattle.settings.specs.Settings.{held_in_range}
use Rattle.slides.specs.Clock.{clock_in_range}
use Rattle.forest.specs.Arrays.{places}
use Rattle.forest_check.specs.Sound.{every, within, sound_of, labels_within_of}
use Rattle.book_state.specs.declared.Book.{Book}
use Rattle.book_state.specs.Arrays.{step_limit}

-- number 1 is not given: the fields are in their ranges, and no walk in either forest exceeds its steps
unfoldable pub in_order_of : Book → Bool
in_order_of b =
    clock_in_range b.clock
    && held_in_range b.clock.n b.clock.b b.fitting.mounting
    && every (within 0 257) 0 b.counts
    && sound_of b.forward_parent b.forward_size step_limit
    && sound_of b.backward_parent b.backward_size step_limit
    && labels_within_of b.backward_label 15

-- a book that was never opened: every number is 0
unfoldable pub never_opened_of : Book
never_opened_of =
    record {
      forward_parent = replicate places 0;
      forward_size = replicate places 0;
      backward_parent = replicate places 0;
      backward_size = replicate places 0;
      counts = replicate 32 0;
      clock = record { total = 0; t0 = 0; b = 0; n = 0; pad = replicate 7 0 };
      backward_label = replicate places 0;
      fitting = record { mounting = 0; pad = replicate 7 0 };
    }
