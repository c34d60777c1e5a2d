-- Document 01, "Programs": what a program prints for a refusal.
use Rattle.std.specs.Prelude.{ℕ, List, [], ◌∷◌, ◌++◌, pos}
use Rattle.text_refusal.specs.Bytes.{bytes}
use Rattle.text_refusal.specs.declared.refusal.Refusal.{Refusal}
use Rattle.text_writer.specs.Write.{written_line}

-- `refused=`, `line=` and `text=`, each with its value, one a line
unfoldable pub refusal_lines : Refusal → List ℕ → List ℕ
refusal_lines found name =
    written_line (bytes "refused=") (pos found.number)
    ++ (written_line (bytes "line=") (pos found.line) ++ (bytes "text=" ++ (name ++ (10 ∷ []))))
