-- A permission's 13 bytes: what the search with the requester's entry placed hands back, by base and register.
use Prim.Native.Nat.{ℕ, suc, ◌+◌, ◌-◌, ◌*◌, ◌<◌, ◌≤◌}
use mathlib.Core.Bool.{Bool, true, false, not, ◌&&◌, cond, and-false, and-true}
use mathlib.Core.Path.{◌≡◌, refl, sym, ap, ◌∙◌}
use mathlib.Core.Logic.{◌↔◌, ⊎_elim}
use mathlib.Core.List.{List, [], ◌∷◌, ◌++◌, append_assoc}
use native.Mathlib.Omega.{arith}
use borrow.Author.Tests.{eqb-true, eq-eqb, ltb-true, ltb-false, lt-ltb, le-ltb, not-true}
use lib.Dec.{ltb, eqb}
use lib.ListN.{length, get_or, take, replicate, get_or-eq_default, length-append, length-replicate}
use lib.Seq.{take_at}
use Rattle.std.proofs.lemmas.Grind.{replicate_next}
use Rattle.std.specs.Prelude.{Option, Some, None, MatchOption}
use Rattle.folds.specs.Sets.{in_set}
use Rattle.folds.proofs.Bools.{met_or_not, and_left, and_right, and_both, never_met}
use Rattle.folds.proofs.Sets.{in_none}
use Rattle.reader.specs.Tables.{clauses, role_count, table_of, user_count}
use Rattle.reader.specs.Rules.{refusal_of}
use Rattle.reader.proofs.Frame.{roles_range, users_le}
use Rattle.reader.proofs.Accepted.{accepted_frame}
use Rattle.weights.specs.declared.Context.{Context}
use Rattle.weights.specs.Weights.{weight}
use Rattle.weights.specs.Acting.{may_act}
use Rattle.weights.specs.Setting.{AreWeights}
use Rattle.decision.specs.Decision.{eligible, out_of_date}
use Rattle.decision.specs.Conditions.{permission_holds}
use Rattle.decision.specs.Groups.{entry_user}
use Rattle.multisets.specs.Rising.{Entry, bytes_of}
use Rattle.seek.specs.Search.{group_bytes}
use Rattle.report.specs.Smallest.{smallest, smallest_by}
use Rattle.report.specs.Report.{part_bytes}
use Rattle.report.specs.Parts.{SetsInDate, PartFor}
use Rattle.report.proofs.Bridge.{Tables, MayStand}
use Rattle.report.proofs.Part.{acting_is}
use Rattle.report.proofs.Turned.{bytes_length}
use Rattle.vouch.specs.Vouching.{vouches}
use Rattle.vouch.specs.Beside.{beside, Vouching, OthersOf}
use Rattle.vouch.specs.Decision.{Lent, decision_vouched}
use Rattle.vouch.specs.Granting.{GrantedVouched}
use Rattle.vouch.specs.Report.{led_vouched}
use Rattle.vouch.proofs.Granted.{GrantedWith, Askable, granted_with, led_granted, led_bytes}
use Rattle.seek.specs.declared.led.Led.{Led}
use Rattle.report.proofs.Least.{OfBytes, smallest_is, smallest_zero}
use Rattle.vouch.proofs.Placing.{LedGroup, led_meets, meets_led}
use Rattle.seek.specs.Led.{LedBy, number_beside, FewestLed}

-- a role is in the set of a user who is kept exactly where it was there before
in_kept : (keep : Bool) (s r : ℕ) → in_set (cond keep s 0) r ≡ (in_set s r && keep)
in_kept true s r = sym (and-true (in_set s r))
in_kept false s r = in_none r ∙ sym (and-false (in_set s r))

-- user and role are there, the user may act in it, stays and is in date, in two orders
shuffled : (u r may kept out : Bool) →
    ((u && (r && (may && not out))) && kept) ≡ (u && (r && ((may && kept) && not out)))
shuffled false r may kept out = refl
shuffled true false may kept out = refl
shuffled true true false kept out = refl
shuffled true true true true false = refl
shuffled true true true true true = refl
shuffled true true true false false = refl
shuffled true true true false true = refl

-- ten bytes of a list and 255 in every byte left of twelve are the list and 255 in every byte left of ten
ten_of : (xs : List ℕ) (m : ℕ) → length xs + m ≡ 10 → take 10 (xs ++ replicate (m + 1 + 1) 255) ≡ xs ++ replicate m 255
ten_of xs m e = ap (take 10) two ∙ take_at (xs ++ replicate m 255) (255 ∷ 255 ∷ []) 10 size
  where
    last : replicate {A = ℕ} (m + 1 + 1) 255 ≡ replicate m 255 ++ (255 ∷ 255 ∷ [])
    last =
        replicate_next (m + 1) 255 ∙ ap (λ (l : List ℕ). l ++ (255 ∷ [])) (replicate_next m 255)
        ∙ append_assoc (replicate m 255) (255 ∷ []) (255 ∷ [])

    two : xs ++ replicate (m + 1 + 1) 255 ≡ (xs ++ replicate m 255) ++ (255 ∷ 255 ∷ [])
    two = ap (λ (l : List ℕ). xs ++ l) last ∙ sym (append_assoc xs (replicate m 255) (255 ∷ 255 ∷ []))

    size : length (xs ++ replicate m 255) ≡ 10
    size = rw (length-append xs (replicate {A = ℕ} m 255), length-replicate {A = ℕ} m 255) e

-- the bytes of n entries, n at most five, behind an entry in front
bytes_led : (q r n k : ℕ) (g : List Entry) {bytes : List ℕ} → length g ≡ n → n ≤ 5 → suc n ≡ k → bytes ≡ group_bytes g →
    (n + 1) ∷ q ∷ r ∷ take 10 bytes ≡ part_bytes k (q ∷ r ∷ bytes_of g)
bytes_led q r n k g many few e is =
    let left : 12 - 2 * length g ≡ (10 - 2 * n) + 1 + 1 = omega arith in
    let rest : 12 - 2 * k ≡ 10 - 2 * n = omega arith in
    let ten = ten_of (bytes_of g) (10 - 2 * n) (omega (arith, bytes_length g)) in
    let count : n + 1 ≡ k = omega arith in
    rw (is, left, ten, rest, count) refl

-- the 13 bytes of a smallest group that stands by rising user from entry 1 on
pub record ShownLed (granted : List ℕ → Bool) (part : List ℕ) : Type 0 where
  pub group : List ℕ
  pub number : length group ≡ 2 * smallest granted
  pub grants : 0 < smallest granted → granted group ≡ true
  pub rising : (i j : ℕ) → 1 ≤ i → i < j → j < smallest granted → entry_user group i < entry_user group j
  pub bytes : part ≡ part_bytes (smallest granted) group

module _ (register : List ℕ) (threshold : ℕ) (b : List ℕ) (at : Context) (q p : ℕ) (ok : refusal_of b ≡ 0)
    (few : p < 16) {sets vouching others w : List ℕ} (acting : SetsInDate b at sets)
    (vouch : Vouching register threshold at.date q vouching) (of : OthersOf sets (get_or vouching p 0) q others)
    (are : AreWeights [] b at p w) where
  abbrev may : ℕ → ℕ → Bool
  may = beside (eligible b at p) (vouches register threshold p at.date) q

  few_users : user_count b ≤ 24
  few_users = users_le b (accepted_frame b ok)

  few_roles : role_count b ≤ 8
  few_roles = (roles_range b (accepted_frame b ok)).1

  -- those of all say who may act in which role and is in date
  abbrev stands : ℕ → ℕ → Bool
  stands u r = may_act b u r && not (out_of_date b at u)

  -- user u isn't the requester and vouches for the requester
  abbrev kept : ℕ → Bool
  kept u = not (eqb u q) && vouches register threshold p at.date u q

  -- the sets of the others say who may stand beside the requester in which role and is in date
  abbrev stands_beside : ℕ → ℕ → Bool
  stands_beside u r =
      ltb u (user_count b) && (ltb r (role_count b) && (may u r && not (out_of_date b at u)))

  others_are : (u r : ℕ) → r < 8 → in_set (get_or others u 0) r ≡ stands_beside u r
  others_are u r low = ⊎_elim (λ t. there (ltb-true _ _ t)) (λ t. past (ltb-false _ _ t)) (met_or_not (ltb u 24))
    where
      there : u < 24 → in_set (get_or others u 0) r ≡ stands_beside u r
      there l =
          ap (λ (s : ℕ). in_set s r) (of.user u l)
          ∙ in_kept (not (eqb u q) && in_set (get_or vouching p 0) u) (get_or sets u 0) r
          ∙ ap (λ (t : Bool). in_set (get_or sets u 0) r && (not (eqb u q) && t)) (vouch.user p u few)
          ∙ ap (λ (t : Bool). t && kept u) (acting_is [] b at p ok sets acting u r low)
          ∙ shuffled (ltb u (user_count b)) (ltb r (role_count b)) (may_act b u r) (kept u) (out_of_date b at u)

      past : 24 ≤ u → in_set (get_or others u 0) r ≡ stands_beside u r
      past l =
          let long : length others ≤ u = omega (arith, of.size) in
          let out : user_count b ≤ u = omega (arith, few_users) in
          rw (get_or-eq_default others 0 long, in_none r, le-ltb _ _ out)

  abbrev weigh : ℕ → ℕ
  weigh r = weight [] b at r p

  tables : Tables (user_count b) (role_count b) may (out_of_date b at) weigh others w
  tables = record {
    acting = others_are;
    weight = λ r l. are.role r (omega (arith, few_roles));
  }

  -- the requester may stand there in the roles of his own set that have weight
  own_stands : (r : ℕ) → r < 8 → in_set (get_or sets q 0) r ≡ true → 0 < get_or w r 0 →
      MayStand (user_count b) (role_count b) (eligible b at p) (out_of_date b at) weigh q r
  own_stands r low acts heavy =
      let all = sym (acting_is [] b at p ok sets acting q r low) ∙ acts in
      let past_user = and_right (ltb q (user_count b)) _ all in
      let past_role = and_right (ltb r (role_count b)) _ past_user in
      record {
        user = ltb-true _ _ (and_left (ltb q (user_count b)) _ all);
        role = ltb-true _ _ (and_left (ltb r (role_count b)) _ past_user);
        acting = and_left (may_act b q r) _ past_role;
        days = not-true _ (and_right (may_act b q r) _ past_role);
        heavy = omega (arith, are.role r low);
      }

  stands_own : (r : ℕ) → MayStand (user_count b) (role_count b) (eligible b at p) (out_of_date b at) weigh q r →
      (r < 8) × (in_set (get_or sets q 0) r ≡ true) × (0 < get_or w r 0)
  stands_own r d =
      let low : r < 8 = omega (arith, d.role, few_roles) in
      let here = and_both {a = may_act b q r} d.acting (ap not d.days) in (
        low,
        acting_is [] b at p ok sets acting q r low
            ∙ and_both (lt-ltb _ _ d.user) (and_both (lt-ltb _ _ d.role) here),
        omega (arith, are.role r low, d.heavy),
      )

  module _ (granted : List ℕ → Bool) (of_bytes : OfBytes granted)
      (is : (t : List ℕ) → (granted t ≡ true) ↔ ((entry_user t 0 ≡ q)
      × GrantedVouched (user_count b) (role_count b) (eligible b at p) (out_of_date b at)
      (vouches register threshold p at.date) weigh (permission_holds (table_of b clauses) p) t))
      {o : Option Led} (f : FewestLed others w (get_or sets q 0) (permission_holds (table_of b clauses) p) 6 o) where
    -- no group that q leads has fewer entries
    least : (t : List ℕ) → granted t ≡ true → (number_beside o ≤ 5) × (2 * suc (number_beside o) ≤ length t)
    least t h =
        let (first, d) = (is t).0 h in
        let (may_stand, g, n, low, meets) =
        led_meets (table_of b clauses) p q (vouches register threshold p at.date) tables few_roles t d first in
        let (below, own, heavy) = stands_own _ may_stand in
        let l = f.least _ below own heavy g (omega arith) meets in
        let whole = d.granted.whole in
        (omega arith, omega arith)

    -- where there are none, none is granted
    none_granted : number_beside o ≡ 6 → smallest granted ≡ 0
    none_granted six =
        (smallest_zero granted of_bytes).1 (λ t. never_met (granted t) (λ h. let l = (least t h).0 in omega arith))

    -- with what is found beside it, the requester's entry is a smallest group
    module _ {led : Led} (by : LedBy others w (get_or sets q 0) (permission_holds (table_of b clauses) p) led)
        (few_more : led.beside.n ≤ 5) (fewest : number_beside o ≡ led.beside.n) where
      abbrev group : List ℕ
      group = q ∷ led.role ∷ bytes_of by.group

      leads : LedGroup (user_count b) (role_count b) (eligible b at p) (out_of_date b at)
          (vouches register threshold p at.date) weigh (permission_holds (table_of b clauses) p) q
          (suc (length by.group)) group
      leads =
          meets_led (table_of b clauses) p q (vouches register threshold p at.date) tables few_roles led.role
          (own_stands led.role by.role by.acting by.heavy) by.group (omega (arith, by.many)) by.meets

      yes : granted group ≡ true
      yes = (is group).1 (leads.first, leads.granted)

      size : length group ≡ 2 * suc led.beside.n
      size = omega (arith, bytes_length by.group, by.many)

      number : suc led.beside.n ≡ smallest granted
      number = smallest_is granted of_bytes (suc led.beside.n) (λ l. (group, yes, size))
          (λ t h. let (_, l) = least t h in (omega arith, omega arith))

      pub shown_found : ShownLed granted ((led.beside.n + 1) ∷ q ∷ led.role ∷ take 10 led.beside.group)
      shown_found = record {
        group = group;
        number = rw (← number) size;
        grants = λ l. yes;
        rising = λ i j some before l. leads.rising i j some before (omega (arith, number, by.many));
        bytes = bytes_led q led.role led.beside.n (smallest granted) by.group by.many few_more number by.bytes;
      }

    pub shown_none : number_beside o ≡ 6 → ShownLed granted (0 ∷ replicate 12 255)
    shown_none six = record {
      group = [];
      number = rw (none_granted six);
      grants = λ l. absurd (omega (arith, none_granted six));
      rising = λ i j some before l. absurd (omega (arith, none_granted six));
      bytes = rw (none_granted six);
    }

  -- what the search hands back is the permission's part
  module _ (lent : Lent register threshold b) (askable : Askable b at p) where
    abbrev grants : List ℕ → Bool
    grants g = eqb (led_vouched register threshold b at q p g) 0

    grants_is : (t : List ℕ) → (grants t ≡ true) ↔ ((entry_user t 0 ≡ q) × GrantedWith register threshold b at p t)
    grants_is t = (
      λ h.
          let (first, granted) = (led_granted q (decision_vouched register threshold b at) p t).0 (eqb-true _ _ h) in
          (first, ((granted_with register threshold b at p t).0 granted).2),
      λ (first, w).
          eq-eqb _ _
          ((led_granted q (decision_vouched register threshold b at) p t).1
          (first, (granted_with register threshold b at p t).1 (lent, askable, w))),
    )

    part_is : {part : List ℕ} → ShownLed grants part → PartFor 1 (led_vouched register threshold b at q) p part
    unfolding smallest_by
    part_is f = record {
      group = f.group;
      shown = record { number = f.number; granted = λ l. eqb-true _ _ (f.grants l); rising = f.rising };
      bytes = f.bytes;
    }

    pub part_with : {part : List ℕ} (o : Option Led) →
        FewestLed others w (get_or sets q 0) (permission_holds (table_of b clauses) p) 6 o →
        MatchOption o (part ≡ 0 ∷ replicate 12 255)
        (λ led. part ≡ (led.beside.n + 1) ∷ q ∷ led.role ∷ take 10 led.beside.group) →
        PartFor 1 (led_vouched register threshold b at q) p part
    part_with None f e = rw e (part_is (shown_none grants (led_bytes register threshold b at q p) grants_is f refl))
    part_with (Some led) f e =
        rw e (part_is (shown_found grants (led_bytes register threshold b at q p) grants_is f f.found led.few refl))
