-- Internal: what an answer of the reader of the header says.
use Rattle.std.specs.Prelude.{Result, Ok, Err}
use Rattle.text_refusal.specs.declared.refusal.Fault.{Fault}
use Rattle.text_line.specs.Field.{LineAnswer, got, refused}
use Rattle.pricing_sums.specs.declared.header.Header.{Header}
use Rattle.pricing_snapshot.specs.declared.header.HeaderLines.{HeaderLines}

abbrev pub header_answer : Result HeaderLines Fault → LineAnswer Header
header_answer (Ok read) = got read.header read.next
header_answer (Err found) = refused found
