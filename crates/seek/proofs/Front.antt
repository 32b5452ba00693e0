-- A search with one entry in front: a look through a level with it, and what the levels together tell.
use Prim.Native.Nat.{ℕ, suc, ◌+◌, ◌-◌, ◌*◌, ◌^◌, ◌<◌, ◌≤◌}
use mathlib.Core.Bool.{true}
use mathlib.Core.List.{List, ◌++◌}
use mathlib.Core.Logic.{⊎_elim}
use mathlib.Core.Path.{◌≡◌, refl, sym, ◌∙◌}
use native.Mathlib.Omega.{arith}
use native.Mathlib.Nat.{eq-or-lt_of_le, le_of_suc-le-suc}
use native.Mathlib.Numerals.{add-one}
use borrow.Author.Tests.{ltb-true, ltb-false, lt-ltb}
use lib.Bits.{bit_or}
use lib.Dec.{ltb}
use lib.ListN.{length, get_or, drop, replicate, length-drop}
use lib.Pow.{pow-lt}
use Rattle.std.proofs.lemmas.List.{get_or-drop}
use Rattle.folds.specs.Sets.{in_set}
use Rattle.folds.proofs.Bools.{and_left, and_right, and_both, met_or_not, clash}
use Rattle.multisets.specs.declared.Weighing.{Weighing}
use Rattle.multisets.specs.declared.ends.Users.{Users}
use Rattle.multisets.specs.Ranks.{first}
use Rattle.multisets.specs.Rising.{Entry, entries_sum, entries_roles}
use Rattle.multisets.specs.Standing.{bytes_back}
use Rattle.multisets.specs.Ends.{NextEnds, Way, back_of}
use Rattle.std.specs.declared.option.Option.{Option}
use Rattle.std.specs.declared.option.Option.TheVariants.{Some, None}
use Rattle.seek.specs.Search.{by_masks, Meets}
use Rattle.seek.specs.Level.{Looking}
use Rattle.seek.specs.Led.{may_lead, met_led, MeetsBeside, TriedLed, FewestLed}
use Rattle.seek.specs.declared.led.Led.{Led}
use Rattle.seek.specs.declared.leading.Place.{Place}
use Rattle.seek.proofs.Groups.{shown_by}
use Rattle.seek.proofs.OneLevel.{beside_empty}

-- a look through a level with role r in front is handed masks for all sums
pub looking_beside : (weighing : Weighing) (r : ℕ) {users : Users} {n known : ℕ} {sums by_sum by_set : List ℕ} →
    Looking users n weighing known sums 0 by_sum by_set → n ≤ 5 → r < 8 → 0 < get_or weighing.w r 0 →
    weighing.placed ≡ 0 → length by_sum ≡ 256 →
    Looking users n weighing known sums (2 ^ r) (drop (get_or weighing.w r 0) by_sum) by_set
looking_beside weighing r {by_sum = by_sum} looking few low heavy nobody all = record {
  few = looking.few;
  made = looking.made;
  summed = looking.summed;
  end_most = looking.end_most;
  fits = let most = weighing.light.most r low in omega (arith, length-drop (get_or weighing.w r 0) by_sum);
  asked = looking.asked;
  set_masks = looking.set_masks;
  low = pow-lt (looking.asked.heavy r low heavy);
}

-- what may be in front
pub leading : (own : ℕ) (w : List ℕ) (r : ℕ) → may_lead own w r ≡ true → (in_set own r ≡ true) × (0 < get_or w r 0)
leading own w r h = (and_left (in_set own r) _ h, ltb-true _ _ (and_right (in_set own r) _ h))

pub may_be : (own : ℕ) (w : List ℕ) (r : ℕ) → in_set own r ≡ true → 0 < get_or w r 0 → may_lead own w r ≡ true
may_be own w r acts heavy = and_both {a = in_set own r} acts (lt-ltb _ _ heavy)

-- the condition on whole groups, and on what stands beside role r
module _ (rows by_sum by_set sets w : List ℕ) (r : ℕ) (g : List Entry) where
  same_met : met_led w r (get_or rows (suc (length g)) 0) by_sum by_set (0 + entries_sum w g) (entries_roles g)
      ≡ by_masks rows by_sum by_set (suc (length g)) (get_or w r 0 + entries_sum w g)
      (bit_or (2 ^ r) (entries_roles g))
  same_met =
      let none : 0 + entries_sum w g ≡ entries_sum w g = omega arith in
      rw (none, get_or-drop (get_or w r 0) by_sum (entries_sum w g) 0) refl

  meets_beside : Meets sets w 0 (met_led w r (get_or rows (suc (length g)) 0) by_sum by_set) g →
      MeetsBeside sets w (by_masks rows by_sum by_set) r g
  meets_beside m = record { rises = m.rises; met = sym same_met ∙ m.met }

  beside_meets : MeetsBeside sets w (by_masks rows by_sum by_set) r g →
      Meets sets w 0 (met_led w r (get_or rows (suc (length g)) 0) by_sum by_set) g
  beside_meets m = record { rises = m.rises; met = same_met ∙ m.met }

-- a level's try, of the tables as they were handed in
pub led_for : {users users₁ : Users} {w by_sum by_set ends from : List ℕ} {own row n : ℕ} {o : Option Place} →
    users₁ ≡ users →
    ((sets : List ℕ) → NextEnds sets users₁.nexts → TriedLed sets w own users₁.d row by_sum by_set n o ends from) →
    (sets : List ℕ) → NextEnds sets users.nexts → TriedLed sets w own users.d row by_sum by_set n o ends from
led_for same tried = rw same at tried

-- nothing is found where the row is empty
pub led_none : {sets w by_sum by_set ends from : List ℕ} {own d row n : ℕ} → row ≡ 0 →
    TriedLed sets w own d row by_sum by_set n None ends from
led_none {w = w} {by_sum} {by_set} e = record {
  tried = λ r low may g many m.
      clash _ m.met (beside_empty (2 ^ r) (drop (get_or w r 0) by_sum) by_set _ _ _ e);
}

-- the same of what stands before a level n
module _ (rows by_sum by_set : List ℕ) {sets w : List ℕ} {own d n : ℕ} {ends from : List ℕ}
    (none : (r : ℕ) → r < 8 → in_set own r ≡ true → 0 < get_or w r 0 → (h : List Entry) → length h < n →
    MeetsBeside sets w (by_masks rows by_sum by_set) r h → ⊥) where
  -- one level more where nothing is found
  pub none_led : TriedLed sets w own d (get_or rows (n + 1) 0) by_sum by_set n None ends from →
      (r : ℕ) → r < 8 → in_set own r ≡ true → 0 < get_or w r 0 → (h : List Entry) → length h < n + 1 →
      MeetsBeside sets w (by_masks rows by_sum by_set) r h → ⊥
  none_led t r low acts heavy h few m = ⊎_elim
      (λ b. none r low acts heavy h (ltb-true (length h) n b) m)
      (λ b.
      let last = ltb-false (length h) n b in
      let many : length h ≡ n = omega arith in
      let is : suc (length h) ≡ n + 1 = omega arith in
      t.tried r low (may_be own w r acts heavy) h many (rw is at (beside_meets rows by_sum by_set sets w r h m)))
      (met_or_not (ltb (length h) n))

  -- what is found at the next is the fewest
  pub some_led : {last : ℕ} (led : Led) {at : ℕ} → led.beside.n ≡ n →
      TriedLed sets w own d (get_or rows (n + 1) 0) by_sum by_set n (Some record { role = led.role; at = at }) ends
      from →
      led.beside.group ≡ bytes_back (back_of ends from n at) ++ replicate (12 - 2 * n) 255 →
      FewestLed sets w own (by_masks rows by_sum by_set) last (Some led)
  some_led led number t is =
      let (low, may, found) = t.tried in
      let (acts, heavy) = leading own w led.role may in
      let next : n + 1 ≡ suc (length found.group) = let many = found.many in omega arith in
      record {
        found = record {
          role = low;
          acting = acts;
          heavy = heavy;
          group = found.group;
          many = found.many ∙ sym number;
          meets = meets_beside rows by_sum by_set sets w led.role found.group (rw next at found.meets);
          bytes = shown_by found.group found.many found.bytes is;
        };
        least = λ r l acts heavy h few m. ⊎_elim
            (λ b. absurd (none r l acts heavy h (ltb-true (length h) n b) m))
            (λ b. let more = ltb-false (length h) n b in omega arith)
            (met_or_not (ltb (length h) n));
      }

-- one role more beside which no entries meet the row
pub none_beside : (w : List ℕ) (own row : ℕ) (by_sum by_set : List ℕ) {role n : ℕ} {sets : List ℕ} →
    ((r : ℕ) → r < role → may_lead own w r ≡ true → (h : List Entry) → length h ≡ n →
    Meets sets w 0 (met_led w r row by_sum by_set) h → ⊥) →
    (may_lead own w role ≡ true → (h : List Entry) → length h ≡ n →
    Meets sets w 0 (met_led w role row by_sum by_set) h → ⊥) →
    (r : ℕ) → r < role + 1 → may_lead own w r ≡ true → (h : List Entry) → length h ≡ n →
    Meets sets w 0 (met_led w r row by_sum by_set) h → ⊥
none_beside w own row by_sum by_set none here r l may h many m = ⊎_elim
    (λ e. here (rw e at may) h many (rw e at m))
    (λ b. none r b may h many m)
    (eq-or-lt_of_le (le_of_suc-le-suc (rw add-one at l)))

-- the way back from the place found
pub way_led : (users : Users) {w by_sum by_set ends from : List ℕ} {own row n : ℕ} {p : Place} →
    ((sets : List ℕ) → NextEnds sets users.nexts →
    TriedLed sets w own users.d row by_sum by_set n (Some p) ends from) →
    (sets : List ℕ) → NextEnds sets users.nexts → Way (first users.d 7) ends from n p.at
way_led users one sets next = let (low, may, found) = (one sets next).tried in found.way
