-- The set of the permissions that the queries ask for.
use Prim.Native.Nat.{ℕ, ◌+◌, ◌*◌, ◌^◌, ◌<◌}
use mathlib.Core.Bool.{Bool, true, false, ◌&&◌, and-false}
use mathlib.Core.List.{List}
use mathlib.Core.Path.{◌≡◌, refl, sym, ap, ◌∙◌}
use native.Mathlib.Nat.{add-zero}
use native.Mathlib.Omega.{arith}
use borrow.Author.Tests.{eqb-true, eq-eqb, lt-ltb}
use lib.Dec.{ltb, eqb}
use lib.ListN.{get_or, drop}
use Rattle.std.proofs.lemmas.List.{get_or-take, get_or-drop}
use Rattle.folds.specs.Below.{any_below}
use Rattle.folds.specs.Sets.{in_set}
use Rattle.folds.proofs.Bools.{and_both, eqb_sym}
use Rattle.folds.proofs.Sets.{in_one}
use Rattle.folds.proofs.Tests.{any_each, any_found, any_same}
use Rattle.batch.specs.Queries.{query_count, query, query_permission}
use Rattle.batch.specs.Asked.{asked_for, AskedBy}

-- a test that stands before every other
of_all : (t : Bool) (test : ℕ → Bool) (n : ℕ) → any_below n (λ i. t && test i) ≡ (t && any_below n test)
of_all true test n = refl
of_all false test n = any_each (λ i. false) n (λ i l. refl)

-- x is there and is p exactly where p is there and x is p
one_asked : (P x p : ℕ) → (ltb x P && in_set (2 ^ x) p) ≡ (ltb p P && eqb x p)
one_asked P x p =
    ap (λ (t : Bool). ltb x P && t) (in_one x p ∙ eqb_sym p x)
    ∙ by (eqb x p) (eqb-true x p)
  where
    by : (t : Bool) → (t ≡ true → x ≡ p) → (ltb x P && t) ≡ (ltb p P && t)
    by true same = rw (same refl)
    by false same = and-false (ltb x P) ∙ sym (and-false (ltb p P))

module _ (queries : List ℕ) where
  -- a query's byte x, and its permission, in the bytes of all
  pub byte_at : (i x : ℕ) → x < 14 → get_or (query queries i) x 0 ≡ get_or queries (14 * i + x) 0
  byte_at i x l = get_or-take 14 (drop (14 * i) queries) x 0 l ∙ get_or-drop (14 * i) queries x 0

  pub permission_at : (i : ℕ) → query_permission (query queries i) ≡ get_or queries (14 * i) 0
  permission_at i = byte_at i 0 (omega arith) ∙ ap (λ k. get_or queries k 0) (add-zero (14 * i))

  -- what is gathered of the permissions that are there
  pub asked_by : (P asked : ℕ) →
      ((p : ℕ) → in_set asked p
      ≡ any_below (query_count queries)
      (λ i. ltb (get_or queries (14 * i) 0) P && in_set (2 ^ get_or queries (14 * i) 0) p)) →
      AskedBy P queries asked
  asked_by P asked has = record {
    members = λ p.
        has p
        ∙ any_same _ (λ i. ltb p P && eqb (query_permission (query queries i)) p) (query_count queries)
        (λ i l.
        one_asked P (get_or queries (14 * i) 0) p ∙ ap (λ x. ltb p P && eqb x p) (sym (permission_at i)))
        ∙ of_all (ltb p P) (λ i. eqb (query_permission (query queries i)) p) (query_count queries);
  }

  -- a query's permission is asked for
  pub each_asked : (i : ℕ) → i < query_count queries → asked_for queries (query_permission (query queries i)) ≡ true
  each_asked i l =
      let p = query_permission (query queries i) in
      any_found (λ k. eqb (query_permission (query queries k)) p) (query_count queries) i l (eq-eqb p p refl)

  -- what is asked for and there is in the set
  pub in_asked : {P asked p : ℕ} (o : ℕ) → AskedBy P queries asked → p < P → p ≡ o → asked_for queries o ≡ true →
      in_set asked p ≡ true
  in_asked {P} {asked} {p} o by l same is =
      by.members p ∙ and_both (lt-ltb p P l) (ap (asked_for queries) same ∙ is)
