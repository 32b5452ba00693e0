-- What a look through a level is handed, and what it finds, by the users of the tables as they were.
use Prim.Native.Nat.{ℕ, suc, ◌+◌, ◌*◌, ◌^◌, ◌<◌, ◌≤◌}
use mathlib.Core.Bool.{Bool}
use mathlib.Core.List.{List}
use mathlib.Core.Path.{◌≡◌}
use native.Mathlib.Omega.{arith}
use lib.ListN.{length}
use Rattle.std.specs.declared.option.Option.{Option}
use Rattle.multisets.specs.Ranks.{first}
use Rattle.multisets.specs.declared.Weighing.{Weighing}
use Rattle.multisets.specs.declared.ends.Users.{Users}
use Rattle.multisets.specs.Ends.{NextEnds}
use Rattle.multisets.specs.Levels.{Summed}
use Rattle.seek.specs.Search.{Ready, TriedWith}
use Rattle.seek.specs.Level.{Looking}

-- where the level's sums are made and then the level, which leaves them
pub summed_on : (weighing : Weighing) (n : ℕ) {d : ℕ} {sums sums₁ : List ℕ} → sums₁ ≡ sums →
    Summed d weighing sums (first d (suc n)) → Summed d weighing sums₁ (first d (suc n))
summed_on weighing n e summed = rw e summed

-- by the users as they were, with a level more
pub summed_next : (weighing : Weighing) (n : ℕ) {users users₁ : Users} {sums : List ℕ} → users₁ ≡ users →
    Summed users₁.d weighing sums (first users₁.d (suc n)) → Summed users.d weighing sums (first users.d (n + 1))
summed_next weighing n same summed = let next : suc n ≡ n + 1 = omega arith in rw (same, next) at summed

pub looking : (weighing : Weighing) {users users₁ : Users} {n known front : ℕ} {sums all by_sum by_set : List ℕ} →
    n ≤ 6 → Ready users.d weighing.end weighing.w users.nexts all by_set → users₁ ≡ users → n ≤ known →
    Summed users.d weighing sums (first users.d (suc n)) → weighing.placed + n * 40 < length by_sum →
    front < 2 ^ weighing.end → Looking users₁ n weighing known sums front by_sum by_set
looking weighing few ready same made summed fits low = rw same (record {
  few = few;
  made = made;
  summed = summed;
  end_most = ready.end_most;
  fits = fits;
  asked = ready.asked;
  set_masks = ready.set_masks;
  low = low;
})

-- what is tried among these users is tried among those, which are the same
pub tried_for : {users users₁ : Users} {w ends from : List ℕ} {n placed : ℕ} {condition : ℕ → ℕ → Bool} {o : Option ℕ} →
    users₁ ≡ users →
    ((sets : List ℕ) → NextEnds sets users₁.nexts → TriedWith sets w placed users₁.d condition n o ends from) →
    (sets : List ℕ) → NextEnds sets users.nexts → TriedWith sets w placed users.d condition n o ends from
tried_for same tried = rw same at tried
