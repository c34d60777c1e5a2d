-- A text for which there is room is laid.
use Prim.Native.Nat.{ℕ, ◌+◌, ◌≤◌}
use mathlib.Core.List.{List}
use mathlib.Core.Path.{◌≡◌}
use borrow.Author.Tests.{le-leb}
use lib.ListN.{length}
use Rattle.std.specs.Prelude.{Option, unwrap_or}
use Rattle.text_writer.specs.Write.{TextLaid, TextWritten}
use Rattle.text_writer.proofs.Writing.{written_bytes}

pub laid_of :
    {text buffer : List ℕ} {at : ℕ} {after : List ℕ} {ended : Option ℕ} {next : ℕ} → TextWritten text buffer at after ended → next ≡ unwrap_or ended at → at + length text ≤ length buffer →
    TextLaid text buffer at after next
laid_of {text} {buffer} {at} done is room =
    record { ends = rw (is, done.ends, le-leb (at + length text) (length buffer) room); bytes = written_bytes done room }

-- the same text in other words
pub laid_as : {text other buffer : List ℕ} {at : ℕ} {after : List ℕ} {next : ℕ} → text ≡ other → TextLaid text buffer at after next → TextLaid other buffer at after next
laid_as same laid = rw (← same) laid
