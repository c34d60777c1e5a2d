-- A part of the input taken byte by byte: each byte leads further on in it.
use Prim.Native.Nat.{ℕ, ◌+◌, ◌-◌, ◌≤◌, ◌<◌, min}
use mathlib.Core.Path.{◌≡◌, refl, sym, ap, ◌∙◌}
use mathlib.Core.Bool.{Bool, true, false, cond}
use mathlib.Core.List.{List, [], ◌∷◌}
use native.Mathlib.Nat.{add-zero, add_assoc}
use native.Mathlib.Numerals.{add-one}
use native.Mathlib.Omega.{arith}
use borrow.Author.Tests.{eqb-true, eqb-false, ne_eqb}
use lib.Dec.{eqb}
use lib.ListN.{length, take, drop, set, get_or, length-set, length-take, length-drop}
use lib.Seq.{drop-cons, length-take-le, take_all}
use Rattle.std.proofs.lemmas.List.{take_min}
use Rattle.program_curves.specs.Program.{ends_hour}
use Rattle.program_curves.specs.Stream.{State, state_of, fed, fed_all, buffer_fed, buffer_fed_all, stores, is_refused, Fed}
use Rattle.program_curves.specs.declared.Stage.{Stage}
use Rattle.program_curves.specs.declared.Stage.TheVariants as stage
use Rattle.program_curves.specs.declared.Stream.{Stream}
use Rattle.program_curves.specs.internal.Feeding.{line_of, ends_at, stops_at, holding, Ready, Further, Stored}
use Rattle.program_curves.proofs.OneByte.{voll_line, floor_line, line_more, hour_more}

pub further_none : {s : State} {buffer rest : List ℕ} → Further s buffer rest s buffer rest
further_none = record { state = refl; bytes = refl }

pub further_on : {s s' s'' : State} {buffer buffer' buffer'' rest rest' rest'' : List ℕ} →
    Further s buffer rest s' buffer' rest' → Further s' buffer' rest' s'' buffer'' rest'' → Further s buffer rest s'' buffer'' rest''
further_on one two = record { state = two.state ∙ one.state; bytes = two.bytes ∙ one.bytes }

-- one byte leads to the rest after it
pub further_byte : (s r : Stream) (buffer after : List ℕ) (byte : ℕ) (rest : List ℕ) → Fed s buffer (byte ∷ []) r after →
    Further (state_of s buffer) buffer (byte ∷ rest) (state_of r after) after rest
unfolding fed_all buffer_fed_all
further_byte s r buffer after byte rest f =
    record { state = ap (λ (x : State). fed_all x rest) f.state; bytes = rw f.state (ap (λ (b : List ℕ). buffer_fed_all (fed (state_of s buffer) byte) b rest) f.bytes) }

-- at a part's end
pub further_end : (s r : Stream) (buffer after part : List ℕ) → Ready r after →
    Further (state_of s buffer) buffer part (state_of r after) after [] → Fed s buffer part r after
unfolding fed_all buffer_fed_all
further_end s r buffer after part ready f =
    record { state = f.state; count = sym (length-take-le r.held after (omega arith)) ∙ ap (λ (x : State). length x.held) f.state; bytes = f.bytes }

-- after a refusal
still : (s : State) (buffer : List ℕ) (byte : ℕ) (at : Stage) → s.stage ≡ at → is_refused at ≡ true → (fed s byte ≡ s) × (buffer_fed s buffer byte ≡ buffer)
unfolding fed
still s buffer byte (stage.RefusedHour found) e h = (rw e, rw e)
still s buffer byte (stage.RefusedSettle found) e h = (rw e, rw e)
still s buffer byte stage.Voll e h = let z : ◌≡◌ {A = ℕ} 0 1 = cc in absurd (omega arith)
still s buffer byte stage.Floor e h = let z : ◌≡◌ {A = ℕ} 0 1 = cc in absurd (omega arith)
still s buffer byte stage.Hours e h = let z : ◌≡◌ {A = ℕ} 0 1 = cc in absurd (omega arith)

pub further_refused : (s : State) (buffer rest : List ℕ) → is_refused s.stage ≡ true → Further s buffer rest s buffer []
unfolding fed_all buffer_fed_all
further_refused s buffer [] h = further_none
further_refused s buffer (byte ∷ rest) h =
    let unmoved = still s buffer byte s.stage refl h in
    let others = further_refused s buffer rest h in
    record { state = rw unmoved.0 others.state; bytes = rw (unmoved.0, unmoved.1) others.bytes }

-- a byte that is not the last one, and has room, is only held
held_more : (s : Stream) (buffer : List ℕ) (byte : ℕ) → Ready s buffer → is_refused s.stage ≡ false → s.held < 65536 →
    ends_at s.stage (take s.held buffer) byte ≡ false → Fed s buffer (byte ∷ []) (holding s (s.held + 1)) (set buffer s.held byte)
held_more s buffer byte ready unrefused room more = go s.stage refl unrefused more
  where
    to : Stream
    to = holding s (s.held + 1)

    go : (here : Stage) → s.stage ≡ here → is_refused here ≡ false → ends_at here (take s.held buffer) byte ≡ false → Fed s buffer (byte ∷ []) to (set buffer s.held byte)
    go stage.Voll e h m = line_more s buffer byte ready voll_line e to room (eqb-false byte 10 m) (rw e)
    go stage.Floor e h m = line_more s buffer byte ready floor_line e to room (eqb-false byte 10 m) (rw e)
    go stage.Hours e h m = hour_more s buffer byte ready e to m room (rw e)
    go (stage.RefusedHour found) e h m = cc
    go (stage.RefusedSettle found) e h m = cc

-- ---- a byte that stops the storing, or does not

not_last : (waits : Stage) (held : ℕ) (buffer : List ℕ) (byte : ℕ) → stops_at waits held buffer byte ≡ false → ends_at waits (take held buffer) byte ≡ false
not_last waits held buffer byte = go (eqb held 65536)
  where
    go : (full : Bool) → cond full true (ends_at waits (take held buffer) byte) ≡ false → ends_at waits (take held buffer) byte ≡ false
    go true h = cc
    go false h = h

pub room_left : (waits : Stage) (held : ℕ) (buffer : List ℕ) (byte : ℕ) → held ≤ 65536 → stops_at waits held buffer byte ≡ false → held < 65536
room_left waits held buffer byte within h = go (eqb held 65536) refl h
  where
    go : (full : Bool) → eqb held 65536 ≡ full → cond full true (ends_at waits (take held buffer) byte) ≡ false → held < 65536
    go true e q = cc
    go false e q = omega (arith, eqb-false held 65536 e)

-- a byte that stops a line that has room is byte 10
pub line_stops : (waits : Stage) (held : ℕ) (buffer : List ℕ) (byte : ℕ) → 1 ≤ line_of waits → stops_at waits held buffer byte ≡ true → (held ≡ 65536 → ⊥) → byte ≡ 10
line_stops stage.Voll held buffer byte line h room = eqb-true byte 10 (rw (ne_eqb held 65536 room) at h)
line_stops stage.Floor held buffer byte line h room = eqb-true byte 10 (rw (ne_eqb held 65536 room) at h)
line_stops stage.Hours held buffer byte line h room = absurd (omega arith)
line_stops (stage.RefusedHour found) held buffer byte line h room = absurd (omega arith)
line_stops (stage.RefusedSettle found) held buffer byte line h room = absurd (omega arith)

-- a byte that stops an hour and does not end it finds no room
pub hour_stops : (held : ℕ) (buffer : List ℕ) (byte : ℕ) → ends_hour (take held buffer) byte ≡ false → stops_at stage.Hours held buffer byte ≡ true → held ≡ 65536
hour_stops held buffer byte more h = go (eqb held 65536) refl h
  where
    go : (full : Bool) → eqb held 65536 ≡ full → cond full true (ends_hour (take held buffer) byte) ≡ true → held ≡ 65536
    go true e q = eqb-true held 65536 e
    go false e q = let z : ◌≡◌ {A = ℕ} 0 1 = cc (sym q ∙ more) in absurd (omega arith)

-- ---- bytes of a line or an hour stored

pub stored_none : (s : Stream) (buffer part : List ℕ) → Ready s buffer → Stored s buffer part buffer 0
stored_none s buffer part ready = record { room = ready.room; within = omega (arith, ready.within); inside = omega arith; further = rw (add-zero s.held) further_none }

module _ {s : Stream} {buffer part after : List ℕ} {count : ℕ} (so_far : Stored s buffer part after count) (unrefused : is_refused s.stage ≡ false) where
  pub stored_on : count < length part → stops_at s.stage (s.held + count) after (get_or part count 0) ≡ false →
      Stored s buffer part (set after (s.held + count) (get_or part count 0)) (count + 1)
  stored_on inside more =
      let byte : ℕ = get_or part count 0 in
      let held : ℕ = s.held + count in
      let room : held < 65536 = room_left s.stage held after byte so_far.within more in
      let at_byte : drop count part ≡ byte ∷ drop (count + 1) part = rw (add-one count) (drop-cons part count 0 inside) in
      record {
        room = rw length-set so_far.room;
        within = omega arith;
        inside = omega arith;
        further =
            rw (← add_assoc s.held count 1)
            (further_on (rw at_byte at so_far.further)
            (further_byte (holding s held) (holding s (held + 1)) after (set after held byte) byte (drop (count + 1) part)
            (held_more (holding s held) after byte (record { room = so_far.room; within = so_far.within }) unrefused room (not_last s.stage held after byte more))));
      }

-- the buffer keeps its length, and no more than it has is held
ready_after : (s r : Stream) (buffer after : List ℕ) (byte : ℕ) → length buffer ≡ 65536 → Fed s buffer (byte ∷ []) r after → Ready r after
unfolding buffer_fed_all
ready_after s r buffer after byte room f =
    let long : length after ≡ 65536 = ap length f.bytes ∙ go (stores s.stage (take s.held buffer) byte) in
    let same : length (take r.held after) ≡ r.held = ap (λ (x : State). length x.held) f.state ∙ sym f.count in
    record { room = long; within = omega (arith, length-take r.held after) }
  where
    go : (b : Bool) → length (cond b (set buffer (length (take s.held buffer)) byte) buffer) ≡ 65536
    go true = rw length-set room
    go false = room

-- a part of which some bytes are taken, and the rest is left
pub record Going (buffer part : List ℕ) (s : Stream) (after : List ℕ) (r : Stream) (rest : List ℕ) : Type 0 where
  pub ready : Ready r after
  pub further : Further (state_of s buffer) buffer part (state_of r after) after rest

pub going_none : (buffer part : List ℕ) (s : Stream) → Ready s buffer → Going buffer part s buffer s part
going_none buffer part s ready = record { ready = ready; further = further_none }

module _ {buffer part after rest : List ℕ} {s r : Stream} (going : Going buffer part s after r rest) where
  pub going_refused : is_refused r.stage ≡ true → Fed s buffer part r after
  going_refused h = further_end s r buffer after part going.ready (further_on going.further (further_refused (state_of r after) after rest h))

  pub going_end : length rest ≡ 0 → Fed s buffer part r after
  going_end h = further_end s r buffer after part going.ready (rw (empty_list rest h) at going.further)
    where
      empty_list : (l : List ℕ) → length l ≡ 0 → l ≡ []
      empty_list [] e = refl
      empty_list (first ∷ l) e = absurd (omega arith)

  pub going_stored : (after' : List ℕ) (count : ℕ) → Stored r after rest after' count → Going buffer part s after' (holding r (r.held + count)) (drop count rest)
  going_stored after' count more =
      record {
        ready = record { room = more.room; within = more.within };
        further = further_on going.further more.further;
      }

  pub going_byte : (r' : Stream) (after' : List ℕ) (byte : ℕ) (more : List ℕ) → rest ≡ byte ∷ more → Fed r after (byte ∷ []) r' after' → Going buffer part s after' r' more
  going_byte r' after' byte more is f =
      record {
        ready = ready_after r r' after after' byte going.ready.room f;
        further = further_on (rw is at going.further) (further_byte r r' after after' byte more f);
      }

pub take_within : (buffer : List ℕ) (held k : ℕ) → length buffer ≡ 65536 → k ≡ min held 65536 → take k buffer ≡ take held buffer
take_within buffer held k room is = rw (is, sym room) (take_min held buffer)

-- a part from a place on
pub part_from : (part : List ℕ) (k : ℕ) → take (length part - k) (drop k part) ≡ drop k part
part_from part k = take_all (length part - k) (drop k part) (omega (arith, length-drop k part))

-- a stream that says it holds more than the buffer has holds all of it
pub held_whole : (s r : Stream) (buffer part after : List ℕ) (held : ℕ) → take held buffer ≡ take s.held buffer → Fed (holding s held) buffer part r after → Fed s buffer part r after
held_whole s r buffer part after held same f =
    let is : state_of (holding s held) buffer ≡ state_of s buffer = rw same in
    record {
      state = f.state ∙ ap (λ (x : State). fed_all x part) is;
      count = f.count ∙ ap (λ (x : State). length (fed_all x part).held) is;
      bytes = f.bytes ∙ ap (λ (x : State). buffer_fed_all x buffer part) is;
    }
