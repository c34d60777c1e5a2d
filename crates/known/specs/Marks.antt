-- Document 02, W-206: readings marked suspect, each with what is to come of it, worked out by hand.
use Rattle.std.specs.Prelude.{ℕ, true, false, List, [], ◌∷◌, ◌++◌, ℤ, pos, neg_ℤ}
use Prim.Native.String.{String}
use Rattle.text_refusal.specs.Bytes.{bytes}
use Rattle.text_line.specs.Judged.{Judged, good, bad}
use Rattle.text_number.specs.declared.marked.Marked.{Marked}
use Rattle.text_number.specs.Marked.{marked_field}
use Rattle.known.specs.Pricing.{claim, loads, with_readings}
use Rattle.known.specs.Held.{id_of, written, refused}

-- ---- values

-- a number and 1 where it is marked; or 6 or 7 alone
abbrev said : Judged Marked → List ℤ
said (good m) = elim m.suspect [ true ↦ m.number ∷ pos 1 ∷ [] | false ↦ m.number ∷ pos 0 ∷ [] ]
said (bad number) = pos number ∷ []

abbrev value : String → List ℤ → List ℤ × List ℤ
value text expected = (said ((marked_field (bytes "net=") (neg_ℤ (pos 2000000)) (pos 2000000)).read (bytes text)), expected)

unfoldable pub marked_values : List (List ℤ × List ℤ)
marked_values =
    value "5" (pos 5 ∷ pos 0 ∷ [])
    ∷ value "5?" (pos 5 ∷ pos 1 ∷ [])
    ∷ value "0?" (pos 0 ∷ pos 1 ∷ [])
    ∷ value "-5?" (neg_ℤ (pos 5) ∷ pos 1 ∷ [])
    ∷ value "2000000?" (pos 2000000 ∷ pos 1 ∷ [])
    ∷ value "2000001?" (pos 7 ∷ [])
    ∷ value "?" (pos 6 ∷ [])
    ∷ value "-?" (pos 6 ∷ [])
    ∷ value "5??" (pos 6 ∷ [])
    ∷ value "?5" (pos 6 ∷ [])
    ∷ value "-0?" (pos 6 ∷ [])
    ∷ value "05?" (pos 6 ∷ [])
    ∷ []

-- ---- texts

-- A's hsl in document 01's listing, line 14: A is ON and counted
unfoldable pub marked_hsl : List ℕ
marked_hsl = with_readings (bytes "3000000") (bytes "2000000?") (bytes "95000")

-- B's net below 95 percent of its lsl, line 21: B would be counted if that test were left out
unfoldable pub marked_below : List ℕ
marked_below = with_readings (bytes "3000000") (bytes "2000000") (bytes "94999?")

-- one validated load, by its net
abbrev load_with : List ℕ → List ℕ
load_with net = bytes "id=L\nkind=nclr\nrrsok=1\nnet=" ++ net ++ bytes "\nlpc=0\nrrs=3\n"

-- and a unit that is OUT, every number of it marked: the load alone counts
unfoldable pub marked_out : List ℕ
marked_out = loads (bytes "0") (bytes "0") (bytes "2") (load_with (bytes "10") ++ bytes "id=U\nkind=gen\nstatus=OUT\nnet=-5?\nlsl=0?\nhsl=9?\nbase=1?\nnonspin=2?\ncold30=1\n")

-- the load's net marked, line 12; twice marked; and a header number, line 3
unfoldable pub marked_load : List ℕ
marked_load = loads (bytes "0") (bytes "0") (bytes "1") (load_with (bytes "10?"))

unfoldable pub twice_marked : List ℕ
twice_marked = loads (bytes "0") (bytes "0") (bytes "1") (load_with (bytes "10??"))

unfoldable pub marked_header : List ℕ
marked_header = loads (bytes "0?") (bytes "0") (bytes "1") (load_with (bytes "10"))

-- the mark at line 12, and a line too many, which is line 15
unfoldable pub marked_and_more : List ℕ
marked_and_more = loads (bytes "0") (bytes "0") (bytes "1") (load_with (bytes "10?") ++ bytes "\n")

unfoldable pub marked_texts : List (List ℤ × List ℤ)
marked_texts =
    claim marked_hsl (pos 15 ∷ pos 14 ∷ [])
    ∷ claim marked_below (pos 15 ∷ pos 21 ∷ [])
    ∷ claim marked_out (pos 4 ∷ pos 4 ∷ pos 1000000000 ∷ pos 1000000000 ∷ pos 900000 ∷ pos 450000 ∷ [])
    ∷ claim marked_load (pos 15 ∷ pos 12 ∷ [])
    ∷ claim twice_marked (pos 6 ∷ pos 12 ∷ [])
    ∷ claim marked_header (pos 6 ∷ pos 3 ∷ [])
    ∷ claim marked_and_more (pos 9 ∷ pos 15 ∷ [])
    ∷ []

-- ---- values held

-- a generator by kind, status, flag and marks, and a load by kind, its first number and marks
abbrev unit : ℤ → ℤ → ℤ → ℤ → List ℤ
unit kind status cold30 marks = kind ∷ status ∷ pos 5 ∷ pos 6 ∷ pos 7 ∷ pos 8 ∷ pos 0 ∷ cold30 ∷ marks ∷ []

abbrev load : ℤ → ℤ → ℤ → List ℤ
load kind first marks = kind ∷ pos 0 ∷ first ∷ pos 2 ∷ pos 3 ∷ pos 4 ∷ pos 0 ∷ pos 0 ∷ marks ∷ []

unfoldable pub marked_held : List (List ℤ × List ℤ)
marked_held =
    -- in ONTEST all five numbers may be marked: 1 + 2 + 4 + 8 + 16
    written (id_of "T") (unit (pos 0) (pos 3) (pos 1) (pos 31))
    "month=7\nhour=14\nlambda=-2500\nfactor=10000\nprc=3000000\neea1=2300000\nshort=0\ncount=1\nid=T\nkind=gen\nstatus=ONTEST\nnet=5?\nlsl=6?\nhsl=7?\nbase=8?\nnonspin=0?\ncold30=1\n"
    -- net and hsl of a nuclear unit that is ON, by -(1 + 4 + 64): the magnitude counts, and what stands beyond 63 is not looked at
    ∷ written (id_of "N") (unit (pos 3) (pos 0) (pos 0) (neg_ℤ (pos 69)))
    "month=7\nhour=14\nlambda=-2500\nfactor=10000\nprc=3000000\neea1=2300000\nshort=0\ncount=1\nid=N\nkind=nuke\nstatus=ON\nnet=5?\nlsl=6\nhsl=7?\nbase=8\nnonspin=0\ncold30=0\n"
    -- hsl of a unit that is ON: the header has 8 lines, then id, kind, status, net, lsl, hsl
    ∷ refused (id_of "A") (unit (pos 0) (pos 0) (pos 0) (pos 4)) (pos 15) (pos 14)
    -- base point of a wind unit in STARTUP with Non-Spin 0
    ∷ refused (id_of "A") (unit (pos 1) (pos 4) (pos 0) (pos 8)) (pos 15) (pos 15)
    -- Non-Spin of an irr unit in OFFNS
    ∷ refused (id_of "A") (unit (pos 2) (pos 2) (pos 0) (pos 16)) (pos 15) (pos 16)
    -- net of a nuclear unit that is OFF, with the flag and without it
    ∷ refused (id_of "A") (unit (pos 3) (pos 1) (pos 1) (pos 1)) (pos 15) (pos 12)
    ∷ written (id_of "A") (unit (pos 3) (pos 1) (pos 0) (pos 1))
    "month=7\nhour=14\nlambda=-2500\nfactor=10000\nprc=3000000\neea1=2300000\nshort=0\ncount=1\nid=A\nkind=nuke\nstatus=OFF\nnet=5?\nlsl=6\nhsl=7\nbase=8\nnonspin=0\ncold30=0\n"
    -- fine: an irr and a nuclear unit in STARTUP, a wind unit that is OFF with its flag; 8 at line 18 comes before the mark of the first unit
    ∷ written (id_of "I" ++ (id_of "N" ++ id_of "W")) (unit (pos 2) (pos 4) (pos 0) (pos 1) ++ (unit (pos 3) (pos 4) (pos 0) (pos 2) ++ unit (pos 1) (pos 1) (pos 1) (pos 4)))
    "month=7\nhour=14\nlambda=-2500\nfactor=10000\nprc=3000000\neea1=2300000\nshort=0\ncount=3\nid=I\nkind=irr\nstatus=STARTUP\nnet=5?\nlsl=6\nhsl=7\nbase=8\nnonspin=0\ncold30=0\nid=N\nkind=nuke\nstatus=STARTUP\nnet=5\nlsl=6?\nhsl=7\nbase=8\nnonspin=0\ncold30=0\nid=W\nkind=wind\nstatus=OFF\nnet=5\nlsl=6\nhsl=7?\nbase=8\nnonspin=0\ncold30=1\n"
    ∷ refused (id_of "A" ++ id_of "A") (unit (pos 0) (pos 0) (pos 0) (pos 1) ++ unit (pos 0) (pos 0) (pos 0) (pos 0)) (pos 8) (pos 18)
    -- rrs of a load that is not validated, its fourth number; 16 is that of no number of a load
    ∷ refused (id_of "L") (load (pos 5) (pos 0) (pos 8)) (pos 15) (pos 14)
    ∷ written (id_of "L") (load (pos 5) (pos 0) (pos 16))
    "month=7\nhour=14\nlambda=-2500\nfactor=10000\nprc=3000000\neea1=2300000\nshort=0\ncount=1\nid=L\nkind=nclr\nrrsok=0\nnet=2\nlpc=3\nrrs=4\n"
    -- flags carry no mark: cold30 at line 17, rrsok at line 11, also where it is out of its range
    ∷ refused (id_of "A") (unit (pos 0) (pos 6) (pos 1) (pos 32)) (pos 6) (pos 17)
    ∷ refused (id_of "L") (load (pos 5) (pos 2) (pos 1)) (pos 6) (pos 11)
    -- a unit in SHUTDOWN, then lpc of a controllable load: 8 + 9 + id, kind, base, lpc
    ∷ refused (id_of "A" ++ id_of "C") (unit (pos 0) (pos 5) (pos 0) (pos 1) ++ load (pos 4) (pos 1) (pos 2)) (pos 15) (pos 21)
    -- a later line that is refused comes before the mark: the flag of the second load, at line 17
    ∷ refused (id_of "L" ++ id_of "M") (load (pos 5) (pos 1) (pos 2) ++ load (pos 5) (pos 2) (pos 0)) (pos 7) (pos 17)
    ∷ []
