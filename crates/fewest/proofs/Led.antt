-- What the search by masks finds beside an entry in front is what the permission's condition asks for.
use Prim.Native.Nat.{ℕ, suc, ◌+◌, ◌*◌, ◌^◌, ◌<◌, ◌≤◌}
use mathlib.Core.Bool.{Bool, true}
use mathlib.Core.List.{List}
use mathlib.Core.Logic.{⊎_elim}
use mathlib.Core.Path.{◌≡◌, refl, sym, ◌∙◌}
use native.Mathlib.Omega.{arith}
use borrow.Author.Tests.{eqb-true, ltb-true, ltb-false}
use lib.Bits.{bit_or, or_lt}
use lib.Dec.{ltb}
use lib.ListN.{length, get_or}
use lib.Pow.{pow-lt}
use Rattle.std.specs.declared.option.Option.{Option}
use Rattle.std.specs.declared.option.Option.TheVariants.{Some, None}
use Rattle.folds.specs.Sets.{in_set}
use Rattle.folds.proofs.Bools.{met_or_not, clash, or_either}
use Rattle.folds.proofs.Sets.{in_or, in_one}
use Rattle.decision.specs.Conditions.{permission_holds}
use Rattle.multisets.specs.Rising.{Entry, Rises, entries_sum, entries_roles}
use Rattle.seek.specs.Search.{by_masks}
use Rattle.seek.specs.Led.{MeetsBeside, LedBy, FewestLed}
use Rattle.seek.specs.declared.led.Led.{Led}
use Rattle.masks.specs.declared.Weighed.{Weighed}
use Rattle.masks.specs.Clauses.{clauses_of}
use Rattle.masks.proofs.Telling.{bare}
use Rattle.fewest.specs.Search.{nobody, WeighedBelow, IsLast}
use Rattle.fewest.proofs.Asked.{Telling, sum_least, sum_most, roles_low, roles_heavy}

-- nothing is found where the condition holds of none
pub led_never : {sets w : List ℕ} {own last : ℕ} {condition : ℕ → ℕ → ℕ → Bool} →
    ((r : ℕ) → r < 8 → 0 < get_or w r 0 → (h : List Entry) → length h < last → MeetsBeside sets w condition r h → ⊥) →
    FewestLed sets w own condition last None
led_never none = record {
  found = tt;
  least = λ r low acts heavy h few m. absurd (none r low heavy h few m);
}

-- as without a clause
pub led_no_clause : (k : List ℕ) (p : ℕ) {sets w : List ℕ} {own last : ℕ} → clauses_of k p ≡ 0 →
    FewestLed sets w own (permission_holds k p) last None
led_no_clause k p z = led_never (λ r low heavy h few m.
    clash _ m.met (bare k p z (suc (length h)) _ _))

-- or without weight
pub led_no_weight : (k : List ℕ) (p : ℕ) {sets w : List ℕ} {own last : ℕ} {v : Weighed} → WeighedBelow w 8 v →
    v.heavy ≡ 0 → FewestLed sets w own (permission_holds k p) last None
led_no_weight k p weighed z = led_never (λ r low heavy h few m. let most = weighed.heavy r low in absurd (omega arith))

module _ {k : List ℕ} {p : ℕ} {w : List ℕ} {s : Weighed} {by_sum by_set rows : List ℕ}
    (told : Telling k p w s nobody by_sum by_set rows) (weighed : WeighedBelow w 8 s) where
  -- beside role r, of at most six entries in all, the masks tell whether the condition holds
  module _ (sets : List ℕ) (r : ℕ) (low : r < 8) (heavy : 0 < get_or w r 0) (g : List Entry)
      (rises : Rises sets w 0 g) (few : length g < 6) where
    abbrev number : ℕ
    number = suc (length g)

    abbrev sum : ℕ
    sum = get_or w r 0 + entries_sum w g

    abbrev set : ℕ
    set = bit_or (2 ^ r) (entries_roles g)

    set_low : set < 2 ^ s.end
    set_low =
        or_lt s.end (2 ^ r) (entries_roles g) (pow-lt (weighed.before r low heavy)) (roles_low sets weighed 0 g rises)

    set_heavy : (q : ℕ) → q < 8 → in_set set q ≡ true → 0 < get_or w q 0
    set_heavy q l h = ⊎_elim
        (λ a. let i : q ≡ r = eqb-true _ _ (sym (in_one r q) ∙ a) in rw i heavy)
        (λ a. roles_heavy sets weighed 0 g rises q a)
        (or_either (in_set (2 ^ r) q) (in_set (entries_roles g) q) (sym (in_or (2 ^ r) (entries_roles g) q) ∙ h))

    same_beside : by_masks rows by_sum by_set number sum set ≡ permission_holds k p number sum set
    same_beside =
        let n : 0 + number ≡ number = omega arith in
        let light = weighed.light r low heavy in
        let most = weighed.heavy r low in
        let least : 0 + number * s.light ≤ sum = omega (arith, sum_least sets weighed 0 g rises) in
        let largest : sum ≤ 0 + number * s.heavy = omega (arith, sum_most sets weighed 0 g rises) in
        rw n at (told.tells number sum set (omega arith) (omega arith) least largest set_low set_heavy)

  module _ {sets : List ℕ} (own : ℕ) {last : ℕ} (is_last : IsLast rows last) where
    -- so what is found by the masks is what the condition asks for
    least_is : {n : ℕ} → ((r : ℕ) → r < 8 → in_set own r ≡ true → 0 < get_or w r 0 → (h : List Entry) →
        length h < last → MeetsBeside sets w (by_masks rows by_sum by_set) r h → n ≤ length h) →
        (r : ℕ) → r < 8 → in_set own r ≡ true → 0 < get_or w r 0 → (h : List Entry) → length h < 6 →
        MeetsBeside sets w (permission_holds k p) r h → n ≤ length h
    least_is least r low acts heavy h few m =
        let same = same_beside sets r low heavy h m.rises few in
        ⊎_elim
        (λ t. least r low acts heavy h (ltb-true (length h) last t) (record { rises = m.rises; met = same ∙ m.met }))
        (λ t.
        let row = is_last.past (suc (length h)) (let l = ltb-false (length h) last t in omega arith) (omega arith) in
        clash _ (same ∙ m.met) (rw row refl))
        (met_or_not (ltb (length h) last))

    pub led_is : (o : Option Led) → FewestLed sets w own (by_masks rows by_sum by_set) last o →
        FewestLed sets w own (permission_holds k p) 6 o
    led_is None f = record { found = tt; least = least_is f.least }
    led_is (Some led) f =
        let by : LedBy sets w own (by_masks rows by_sum by_set) led = f.found in
        let number = led.few in
        let same = same_beside sets led.role by.role by.heavy by.group by.meets.rises (omega (arith, by.many)) in
        record {
          found = record {
            role = by.role;
            acting = by.acting;
            heavy = by.heavy;
            group = by.group;
            many = by.many;
            meets = record { rises = by.meets.rises; met = sym same ∙ by.meets.met };
            bytes = by.bytes;
          };
          least = least_is f.least;
        }

  -- nor is anything found where all rows are empty
  pub led_no_row : {sets : List ℕ} {own : ℕ} → ((n : ℕ) → n < 7 → get_or rows n 0 ≡ 0) →
      FewestLed sets w own (permission_holds k p) 6 None
  led_no_row {sets} empty = led_never (λ r low heavy h few m.
      let same = same_beside sets r low heavy h m.rises few in
      let row = empty (suc (length h)) (omega arith) in
      clash _ (same ∙ m.met) (rw row refl))
