-- Where `find_map` over the numbers below n found nothing, each of them gave nothing.
use Prim.Native.Nat.{ℕ, ◌+◌, ◌<◌}
use mathlib.Core.Bool.{false, true≢false}
use mathlib.Core.Path.{◌≡◌, sym, ap, subst, ◌∙◌}
use native.Mathlib.Omega.{arith}
use denote.Param.Members.{Mut}
use Rattle.std.specs.Bool.{IsTrue}
use Rattle.std.specs.Fn.{Called}
use Rattle.std.specs.Option.{is_some, option_map, IfSome, MatchOption}
use Rattle.std.specs.Iterator.Runs.{SomeRun, AllItemsGive, CallKeepsClosure, IsFirstToGive}
use Rattle.std.specs.declared.option.Option.{Option}
use Rattle.std.specs.declared.option.Option.TheVariants.{Some, None}
use Rattle.std.specs.declared.ops.Range.{Range}
use Rattle.std.proofs.iter.Yields.{nat_range_steps}
use Rattle.std.proofs.iter.runs.Sources.{range_runs}

-- what holds of the number that is there
there : (P : ℕ → Type 0) (o : Option ℕ) {x : ℕ} → option_map (λ y. y) o ≡ Some x → IfSome o P → P x
there P None e h = absurd (true≢false (ap is_some (sym e)))
there P (Some y) e h = subst P (ap (λ (o : Option ℕ). elim o [ None ↦ y | Some z ↦ z ]) e) h

module _ {F B : Type 0} {g : Mut F (ℕ × Unit {0}) (Option B)} {f : F} {n : ℕ} {s : Range ℕ} where
  pub none_mapped : (r : Option B) → s ≡ record { start = 0; end = n } →
      SomeRun nat_range_steps s (λ p. MatchOption r (IsTrue p.whole × AllItemsGive p g f None)
      (λ y. (i : ℕ) × (i < p.len) × (p.len ≡ i + 1) × IsFirstToGive p g f (Some y) None i)) →
      is_some r ≡ false → CallKeepsClosure g f → (k : ℕ) → k < n → Called g f (k, tt) None f
  none_mapped (Some y) whole run found keeps k l = absurd (true≢false found)
  none_mapped None whole (p, at, (done, all)) found keeps k l =
      let from = at ∙ whole in
      let start : p.from.start ≡ 0 = ap (λ (r : Range ℕ). r.start) from in
      let end : p.from.end ≡ n = ap (λ (r : Range ℕ). r.end) from in
      let (short, long, are, reads) = range_runs p p.seen in
      let many = long done in
      let e : p.from.start + k ≡ k = omega arith in
      there (λ x. Called g f (x, tt) None f) (p.at k) (reads k (omega arith) ∙ ap Some e) (all keeps k)
