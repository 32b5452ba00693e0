-- `Grounds::of` meets its contract: each table is that of the base, for the permissions asked for.
use mathlib.Core.Path.{◌≡◌}
use Rattle.std.proofs.Common.{ℕ, List, ◌≤◌}
use Rattle.reader.specs.Tables.{permission_count}
use Rattle.reader.specs.Rules.{refusal_of}
use Rattle.reader.proofs.Frame.{permissions_le}
use Rattle.reader.proofs.Accepted.{accepted_frame}
use Rattle.batch.proofs.grounds.Grounds.of.Goals as goal

few : (b : List ℕ) {P : ℕ} → refusal_of b ≡ 0 → P ≡ permission_count b → P ≤ 16
few b ok same = rw same (permissions_le b (accepted_frame b ok))

pub asked-asked-requires : goal.asked-asked-requires
asked-asked-requires c = few c.args.base.now c.requires.accepted c.permission_count-permission_count.ensures

pub invariant_of-result : goal.invariant_of-result
invariant_of-result c =
    record { few = few c.args.base.now c.requires.accepted c.permission_count-permission_count.ensures }
