-- From a place found to the bytes of a group.
use Prim.Native.Nat.{ℕ, ◌-◌, ◌*◌, ◌≤◌}
use mathlib.Core.List.{List, ◌++◌}
use mathlib.Core.Path.{◌≡◌, refl, ◌∙◌}
use native.Mathlib.Omega.{arith}
use lib.ListN.{length, replicate}
use Rattle.multisets.specs.Ranks.{first}
use Rattle.multisets.specs.Rising.{Entry, bytes_of}
use Rattle.multisets.specs.declared.ends.Users.{Users}
use Rattle.multisets.specs.Ends.{NextEnds, Way, WayIn}
use Rattle.multisets.specs.Values.{Held}
use Rattle.multisets.specs.Laid.{Laid}
use Rattle.multisets.proofs.Places.{first_0, first_all}
use Rattle.seek.specs.Search.{Ready, group_bytes}

-- no sums are made yet
pub no_sums : {d end : ℕ} {value : ℕ → ℕ → ℕ} {t : List ℕ} → first d 7 ≤ length t → Held d end value t (first d 0)
no_sums {d} room = record { room = room; each = λ n m few some l. absurd (omega (arith, first_0 d)) }

-- the way back from the place found
pub back_way : {users users₁ : Users} {end k shaped n at : ℕ} {w by_sum by_set t ends from roles sums : List ℕ} →
    ((sets : List ℕ) → NextEnds sets users.nexts → Way (first users.d 7) ends from n at) → users₁ ≡ users →
    Ready users.d end w users.nexts by_sum by_set → Laid users₁.d k shaped users₁.nexts t ends from roles sums →
    WayIn ends from n at
back_way {users} way same ready laid₁ =
    let d = users.d in
    let laid = rw same at laid₁ in
    record {
      room = first d 7;
      most = first_all d laid.most;
      ends_room = laid.filled.room;
      from_room = laid.filled.places;
      way = way ready.users ready.next_ends;
    }

-- its bytes
pub shown_by : {n : ℕ} {bytes back : List ℕ} (g : List Entry) → length g ≡ n → bytes_of g ≡ back →
    bytes ≡ back ++ replicate (12 - 2 * n) 255 → bytes ≡ group_bytes g
shown_by g many same is = is ∙ rw (← same, ← many) refl
