-- Document 02, W-204: snapshots held as values, each with what writing it is to give, worked out by hand.
use Rattle.text_refusal.specs.Answer.{Answer}
use Rattle.std.specs.Prelude.{ℕ, ◌-◌, List, [], ◌∷◌, ◌++◌, map, ℤ, pos, neg_ℤ, length, replicate, Ok, Err}
use Prim.Native.String.{String}
use Rattle.text_refusal.specs.Bytes.{bytes}
use Rattle.pricing_held.specs.Lines.{held_answer, held_text}

-- a row of bytes: the id, byte 0, and bytes that are not looked at
abbrev pub id_of : String → List ℕ
id_of id = bytes id ++ (0 ∷ replicate (31 - length (bytes id)) 88)

-- document 01's header, with a `count` that is not looked at
abbrev pub header : List ℤ
header = pos 7 ∷ pos 14 ∷ neg_ℤ (pos 2500) ∷ pos 10000 ∷ pos 3000000 ∷ pos 2300000 ∷ pos 0 ∷ pos 99 ∷ []

-- kind, status, six numbers, none of which is marked
abbrev row : ℤ → ℤ → ℤ → ℤ → ℤ → ℤ → ℤ → ℤ → List ℤ
row kind status a b c d e f = kind ∷ status ∷ a ∷ b ∷ c ∷ d ∷ e ∷ f ∷ pos 0 ∷ []

-- a unit that is ON, by its net and its flag
abbrev unit : ℤ → ℤ → List ℤ
unit net cold30 = row (pos 0) (pos 0) net (pos 100000) (pos 2000000) (pos 200000) (pos 0) cold30

-- a load of kind `nclr`: a status and two numbers that it does not have are not looked at
abbrev load : ℤ → List ℤ
load rrs = row (pos 5) (pos 9) (pos 1) (pos 10) (pos 0) rrs (pos 5000000) (neg_ℤ (pos 1))

-- refused by a number at a line; or 0, 0 and the bytes of the text
abbrev outcome_of : Answer → List ℕ → List ℤ
outcome_of (Ok accepted) text = pos 0 ∷ pos 0 ∷ map pos text
outcome_of (Err found) text = pos found.number ∷ pos found.line ∷ []

abbrev claim : List ℕ → List ℤ → List ℤ → List ℤ × List ℤ
claim ids numbers expected = (outcome_of (held_answer header ids numbers) (held_text header ids numbers), expected)

abbrev pub written : List ℕ → List ℤ → String → List ℤ × List ℤ
written ids numbers text = claim ids numbers (pos 0 ∷ pos 0 ∷ map pos (bytes text))

abbrev pub refused : List ℕ → List ℤ → ℤ → ℤ → List ℤ × List ℤ
refused ids numbers number line = claim ids numbers (number ∷ line ∷ [])

unfoldable pub held_values : List (List ℤ × List ℤ)
held_values =
    -- no resource: `count` is 0, whatever was handed in
    written [] [] "month=7\nhour=14\nlambda=-2500\nfactor=10000\nprc=3000000\neea1=2300000\nshort=0\ncount=0\n"
    -- one load
    ∷ written (id_of "A") (load (pos 3))
    "month=7\nhour=14\nlambda=-2500\nfactor=10000\nprc=3000000\neea1=2300000\nshort=0\ncount=1\nid=A\nkind=nclr\nrrsok=1\nnet=10\nlpc=0\nrrs=3\n"
    -- a unit whose net is below 0, and a controllable load; a row of bytes more is not looked at
    ∷ written (id_of "W_1" ++ id_of "C" ++ id_of "Z") (row (pos 1) (pos 4) (neg_ℤ (pos 5)) (pos 1) (pos 2) (pos 3) (pos 4) (pos 1) ++ row (pos 4) (pos 0) (pos 6) (pos 7) (pos 8) (pos 2000000) (pos 0) (pos 0))
    "month=7\nhour=14\nlambda=-2500\nfactor=10000\nprc=3000000\neea1=2300000\nshort=0\ncount=2\nid=W_1\nkind=wind\nstatus=STARTUP\nnet=-5\nlsl=1\nhsl=2\nbase=3\nnonspin=4\ncold30=1\nid=C\nkind=clr\nbase=6\nlpc=7\nnonspin=8\nregup=2000000\n"
    -- a flag of 2 stands at line 17: the header has 8 lines, then id, kind, status, net, lsl, hsl, base, nonspin
    ∷ refused (id_of "A") (unit (pos 200000) (pos 2)) (pos 7) (pos 17)
    -- an empty id, and an id with a small letter
    ∷ refused (id_of "") (load (pos 3)) (pos 6) (pos 9)
    ∷ refused (id_of "a") (load (pos 3)) (pos 6) (pos 9)
    -- a repeated id at the later of the two: a load has 6 lines
    ∷ refused (id_of "A" ++ id_of "A") (load (pos 3) ++ load (pos 3)) (pos 8) (pos 15)
    -- 7 at line 12 comes before 8 at line 18, and 8 at line 18 before 7 at line 21
    ∷ refused (id_of "A" ++ id_of "A") (unit (pos 2000001) (pos 0) ++ unit (pos 0) (pos 0)) (pos 7) (pos 12)
    ∷ refused (id_of "A" ++ id_of "A") (unit (pos 0) (pos 0) ++ unit (pos 2000001) (pos 0)) (pos 8) (pos 18)
    -- a kind and a status outside their lists
    ∷ refused (id_of "A") (row (pos 6) (pos 0) (pos 0) (pos 0) (pos 0) (pos 0) (pos 0) (pos 0)) (pos 6) (pos 10)
    ∷ refused (id_of "A") (row (neg_ℤ (pos 1)) (pos 0) (pos 0) (pos 0) (pos 0) (pos 0) (pos 0) (pos 0)) (pos 6) (pos 10)
    ∷ refused (id_of "A") (row (pos 3) (pos 7) (pos 0) (pos 0) (pos 0) (pos 0) (pos 0) (pos 0)) (pos 6) (pos 11)
    ∷ []
