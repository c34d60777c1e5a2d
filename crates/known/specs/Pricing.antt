-- Document 01, "Known values" and "Traps", and document 02, W-202: those of pricing, each with what it is to be.
use Rattle.std.specs.Prelude.{ℕ, List, [], ◌∷◌, ◌++◌, ℤ, pos, negsuc, replicate, set, Ok, Err}
use Rattle.text_refusal.specs.Bytes.{bytes}
use Rattle.curve_set.specs.declared.CurveSet.{CurveSet}
use Rattle.pricing_adder.specs.Price.{Pricing, price_values}
use Rattle.pricing.specs.Pricing.{priced}

-- document 01's numbers for each case of a pricing: `rs rsns pis pins online offline`, or the refusal's number and its line
abbrev pub printed : Pricing → List ℤ
printed (Ok p) = price_values p
printed (Err found) = pos found.number ∷ pos found.line ∷ []

-- voll 900000, floor 2000000, all pairs 0 and 1000000
abbrev pub listed_curves : CurveSet
listed_curves = record { voll = pos 900000; floor = pos 2000000; pairs = replicate 24 (record { mean = pos 0; spread = pos 1000000 }) }

-- these curves, but with the mean 100000 in one group
abbrev pub with_mean : ℕ → CurveSet
with_mean group =
    record { voll = pos 900000; floor = pos 2000000; pairs = set listed_curves.pairs group (record { mean = pos 100000; spread = pos 1000000 }) }

-- document 01's listing, by PRC, A's HSL, B's net and base point, and C's HSL
abbrev pub listing : List ℕ → List ℕ → List ℕ → List ℕ → List ℕ → List ℕ
listing prc hsl net base offline =
    bytes "month=7\nhour=14\nlambda=2500\nfactor=10000\nprc=" ++ prc
    ++ bytes "\neea1=2300000\nshort=0\ncount=3\nid=A\nkind=gen\nstatus=ON\nnet=200000\nlsl=100000\nhsl=" ++ hsl
    ++ bytes "\nbase=200000\nnonspin=0\ncold30=0\nid=B\nkind=gen\nstatus=ON\nnet=" ++ net
    ++ bytes "\nlsl=100000\nhsl=1000000\nbase=" ++ base
    ++ bytes "\nnonspin=0\ncold30=0\nid=C\nkind=gen\nstatus=OFFNS\nnet=0\nlsl=0\nhsl=" ++ offline
    ++ bytes "\nbase=0\nnonspin=0\ncold30=0\n"

-- the listing by PRC, A's HSL and B's net, the other readings as they stand
abbrev pub with_readings : List ℕ → List ℕ → List ℕ → List ℕ
with_readings prc hsl net = listing prc hsl net (bytes "93000") (bytes "293000")

-- a snapshot of other loads, by lambda, short and count
abbrev pub loads : List ℕ → List ℕ → List ℕ → List ℕ → List ℕ
loads lambda short count lines =
    bytes "month=7\nhour=14\nlambda=" ++ lambda ++ bytes "\nfactor=10000\nprc=0\neea1=0\nshort=" ++ short ++ bytes "\ncount=" ++ count ++ bytes "\n" ++ lines

-- the listing
unfoldable pub as_listed : List ℕ
as_listed = with_readings (bytes "3000000") (bytes "2000000") (bytes "95000")

-- PRC equal to the PRC at which EEA Level 1 starts: D is not counted
unfoldable pub at_level_one : List ℕ
at_level_one = with_readings (bytes "2300000") (bytes "2000000") (bytes "95000")

-- net=94999 on B: B is not counted
unfoldable pub below_minimum : List ℕ
below_minimum = with_readings (bytes "3000000") (bytes "2000000") (bytes "94999")

-- A's hsl empty: 5, line 14
unfoldable pub empty_hsl : List ℕ
empty_hsl = with_readings (bytes "3000000") [] (bytes "95000")

-- one validated load, net 10, LPC 0, RRS 3: RS is 4
unfoldable pub one_load : List ℕ
one_load = loads (bytes "0") (bytes "0") (bytes "1") (bytes "id=L\nkind=nclr\nrrsok=1\nnet=10\nlpc=0\nrrs=3\n")

-- the same with short 5, where RS is -1, and lambda equal to VOLL, where both prices are 0
unfoldable pub short_load : List ℕ
short_load = loads (bytes "900000") (bytes "5") (bytes "1") (bytes "id=L\nkind=nclr\nrrsok=1\nnet=10\nlpc=0\nrrs=3\n")

-- the RRS of a load that is not validated counts, and the cap is that of the total: 10 and 1.5 x 3
unfoldable pub two_loads : List ℕ
two_loads = loads (bytes "0") (bytes "0") (bytes "2") (bytes "id=L\nkind=nclr\nrrsok=1\nnet=10\nlpc=0\nrrs=0\nid=M\nkind=nclr\nrrsok=0\nnet=0\nlpc=0\nrrs=3\n")

-- a missing LPC is no zero: its line is refused
unfoldable pub missing_lpc : List ℕ
missing_lpc = loads (bytes "0") (bytes "0") (bytes "1") (bytes "id=L\nkind=nclr\nrrsok=1\nnet=10\nrrs=3\n")

-- ids that differ after their eighth byte
unfoldable pub other_ids : List ℕ
other_ids = loads (bytes "0") (bytes "0") (bytes "2") (bytes "id=LOADNUMBER1\nkind=nclr\nrrsok=1\nnet=10\nlpc=0\nrrs=3\nid=LOADNUMBER2\nkind=nclr\nrrsok=0\nnet=0\nlpc=0\nrrs=0\n")

-- an id that stands above: 8 at its own line
unfoldable pub repeated_id : List ℕ
repeated_id = loads (bytes "0") (bytes "0") (bytes "2") (bytes "id=LOADNUMBER1\nkind=nclr\nrrsok=1\nnet=10\nlpc=0\nrrs=3\nid=LOADNUMBER1\nkind=nclr\nrrsok=0\nnet=0\nlpc=0\nrrs=0\n")

-- a text priced on curves: what is printed, and what is to be
abbrev pub claim_on : CurveSet → List ℕ → List ℤ → List ℤ × List ℤ
claim_on curves text expected = (printed (priced curves text), expected)

-- the same on document 01's curves
abbrev pub claim : List ℕ → List ℤ → List ℤ × List ℤ
claim text expected = claim_on listed_curves text expected

unfoldable pub priced_values : List (List ℤ × List ℤ)
priced_values =
    claim as_listed (pos 2707000 ∷ pos 3000000 ∷ pos 158655254 ∷ pos 158655254 ∷ pos 142393 ∷ pos 71197 ∷ [])
    ∷ claim at_level_one (pos 2707000 ∷ pos 2707000 ∷ pos 158655254 ∷ pos 239785544 ∷ pos 178800 ∷ pos 107604 ∷ [])
    ∷ claim below_minimum (pos 1800000 ∷ pos 2093000 ∷ pos 1000000000 ∷ pos 462952174 ∷ pos 656500 ∷ pos 207750 ∷ [])
    ∷ claim empty_hsl (pos 5 ∷ pos 14 ∷ [])
    ∷ claim one_load (pos 4 ∷ pos 4 ∷ pos 1000000000 ∷ pos 1000000000 ∷ pos 900000 ∷ pos 450000 ∷ [])
    ∷ claim short_load (negsuc 0 ∷ negsuc 0 ∷ pos 1000000000 ∷ pos 1000000000 ∷ pos 0 ∷ pos 0 ∷ [])
    ∷ claim two_loads (pos 4 ∷ pos 4 ∷ pos 1000000000 ∷ pos 1000000000 ∷ pos 900000 ∷ pos 450000 ∷ [])
    ∷ claim missing_lpc (pos 4 ∷ pos 13 ∷ [])
    ∷ claim other_ids (pos 4 ∷ pos 4 ∷ pos 1000000000 ∷ pos 1000000000 ∷ pos 900000 ∷ pos 450000 ∷ [])
    ∷ claim repeated_id (pos 8 ∷ pos 15 ∷ [])
    -- July, hour 14, is in group 16: p is 92.927… and 90, and T(92) + floor(0.927… × (T(93) - T(92))) is 821213620 + 2413224, T(90) is 815939875
    ∷ claim_on (with_mean 16) as_listed (pos 2707000 ∷ pos 3000000 ∷ pos 176373156 ∷ pos 184060125 ∷ pos 161744 ∷ pos 82597 ∷ [])
    -- and in no other: the mean of group 15 is not looked at
    ∷ claim_on (with_mean 15) as_listed (pos 2707000 ∷ pos 3000000 ∷ pos 158655254 ∷ pos 158655254 ∷ pos 142393 ∷ pos 71197 ∷ [])
    ∷ []
