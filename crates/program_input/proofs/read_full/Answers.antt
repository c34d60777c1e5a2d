use Rattle.std.proofs.Common.{arith, rules, ◌≡◌, ◌+◌, ◌≤◌, ℕ, Option, List, ◌++◌, length, take, sym, ap, subst, ◌∙◌}
use Rattle.std.proofs.Math.Seq.{take-append-add}
use Rattle.std.proofs.lemmas.List.{length-take-le, take-append-le}
use Rattle.std.proofs.KnownBytes.{Consumes-trans}
use Rattle.std.specs.Io.KnownBytes.{Consumes}
use Rattle.program_input.proofs.read_full.Goals as goal

-- what was read so far, and then the bytes of one more read, laid behind them
more_bytes : (a b c : Option (List ℕ)) (space buf behind : List ℕ) (i n : ℕ) → i ≤ length space → n ≤ length buf → Consumes a b (take i space) → Consumes b c (take n buf) →
    Consumes a c (take (i + n) (take i space ++ (buf ++ behind)))
more_bytes a b c space buf behind i n inside fits before read =
    let long : length (take i space) ≡ i = length-take-le i space inside in
    let is : take (i + n) (take i space ++ (buf ++ behind)) ≡ take i space ++ take n buf =
    ap (λ (k : ℕ). take (k + n) (take i space ++ (buf ++ behind))) (sym long)
    ∙ take-append-add (take i space) (buf ++ behind) n
    ∙ ap (λ (l : List ℕ). take i space ++ l) (take-append-le n buf behind fits) in
    subst (Consumes a c) (sym is) (Consumes-trans a b c _ _ before read)

pub loop-length-preserved : goal.loop-length-preserved
loop-length-preserved g c = record {
  long = search rules;
  within = search rules;
  bytes = more_bytes _ _ _ _ _ _ _ _ (omega arith) c.in_ok-count.ensures.bound.0 c.loop-length.invariant.bytes c.in_ok-count.ensures.bytes.0;
}
