-- A list whose first places, or those from one on, are written over by another list.
use Prim.Native.Nat.{ℕ, ◌+◌, ◌-◌, ◌<◌, ◌≤◌}
use mathlib.Core.Path.{◌≡◌, ap, ◌∙◌}
use mathlib.Core.Logic.{⊎_elim}
use mathlib.Core.List.{List, ◌++◌}
use native.Mathlib.Omega.{arith}
use borrow.Author.Tests.{ltb-true, ltb-false}
use borrow.Rule.Slice.PartMut.{put_mid}
use lib.Dec.{ltb}
use lib.ListN.{length, get_or, take, drop}
use Rattle.std.proofs.Common.{rules, length-append, length-drop}
use Rattle.std.proofs.lemmas.List.{places, length-take, get_or_append_left, get_or-append_right}
use Rattle.std.proofs.lemmas.List.{get_or-take, get_or-drop}
use Rattle.folds.proofs.Bools.{met_or_not}

module _ (xs ys : List ℕ) (a i : ℕ) where
  pub before_end : length ys ≡ a → i < a → get_or (ys ++ drop a xs) i 0 ≡ get_or ys i 0
  before_end e l = get_or_append_left ys (drop a xs) 0 i (omega arith)

  pub from_end : length ys ≡ a → a ≤ i → get_or (ys ++ drop a xs) i 0 ≡ get_or xs i 0
  from_end e l =
      let s : a + (i - a) ≡ i = omega arith in
      get_or-append_right ys (drop a xs) a i 0 e l ∙ get_or-drop a xs (i - a) 0 ∙ ap (λ j. get_or xs j 0) s

  -- so what is known of the items before a, and of the list as it was from a on, is known of each place
  pub each_place : (Q : ℕ → Type 0) → length ys ≡ a → (i < a → Q (get_or ys i 0)) → (a ≤ i → Q (get_or xs i 0)) →
      Q (get_or (ys ++ drop a xs) i 0)
  each_place Q e made kept =
      ⊎_elim
      (λ t. let l = ltb-true i a t in rw (before_end e l) (made l))
      (λ t. let l = ltb-false i a t in rw (from_end e l) (kept l))
      (met_or_not (ltb i a))

  pub before_start : a ≤ length xs → i < a → get_or (put_mid a (length xs - a) xs ys) i 0 ≡ get_or xs i 0
  before_start h l =
      let e = length-take a xs in
      get_or_append_left (take a xs) _ 0 i (omega arith) ∙ get_or-take a xs i 0 l

  pub from_start : length ys ≡ length xs - a → a ≤ i → i < length xs →
      get_or (put_mid a (length xs - a) xs ys) i 0 ≡ get_or ys (i - a) 0
  from_start e h l =
      let t = length-take a xs in
      get_or-append_right (take a xs) _ a i 0 (omega arith) h ∙ get_or_append_left ys _ 0 (i - a) (omega arith)

pub length_end : (xs ys : List ℕ) (a : ℕ) → length ys ≡ a → a ≤ length xs → length (ys ++ drop a xs) ≡ length xs
length_end xs ys a e h = let s = length-append ys (drop a xs) in let d = length-drop a xs in omega arith

pub length_start : (xs ys : List ℕ) (a : ℕ) → a ≤ length xs → length ys ≡ length xs - a →
    length (put_mid a (length xs - a) xs ys) ≡ length xs
length_start xs ys a h e = search (rules, places)
