-- What a lent output holds after a text was written into it.
use Rattle.std.specs.Prelude.{◌+◌, ◌≤◌, length}
use Rattle.std.proofs.lemmas.List.Edits.{sets}
use Rattle.numbers.specs.Kinds.{Bytes}
use Rattle.text.specs.declared.Output.{Output}

-- the text fits after what stands at the front
abbrev pub HasRoom : (text : Bytes) (output : Output) → Type 0
HasRoom text o = o.end + length text ≤ length o.bytes.now

-- the text stands there, and no other byte has changed
unfoldable pub wrote : (text : Bytes) (output : Output) → Output
wrote text o =
    record {
      bytes = record { ref_ptr = o.bytes.ref_ptr; ghost_name = o.bytes.ghost_name; now = sets o.bytes.now o.end text };
      end = o.end + length text;
    }
