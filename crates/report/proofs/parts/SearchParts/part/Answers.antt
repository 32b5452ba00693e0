-- `part` meets its contract: the search's answer is a smallest granted group, or that there is none.
use Rattle.std.proofs.Common.{ℕ, ◌<◌, List, Option, ◌≡◌, arith, rules}
use Rattle.reader.specs.Tables.{permission_count}
use Rattle.reader.proofs.Frame.{permissions_le}
use Rattle.reader.proofs.Accepted.{accepted_frame}
use Rattle.weights.specs.Setting.{rules_of}
use Rattle.multisets.specs.declared.ends.Users.{Users}
use Rattle.seek.specs.declared.Found.{Found}
use Rattle.seek.specs.Answer.{AnsweredWith}
use Rattle.fewest.specs.Search.{nobody, holds_with}
use Rattle.report.specs.Smallest.{Deciding}
use Rattle.report.specs.declared.parts.Grounds.{Grounds}
use Rattle.report.specs.Parts.{Searching}
use Rattle.report.proofs.Part.{same_seeking, seeking, part_with}
use Rattle.report.proofs.parts.SearchParts.part.Goals as goal

-- what is found in the same table K
module _ {k k' : List ℕ} (table : k ≡ k') where
  same_answer : {sets w : List ℕ} (p : ℕ) {last : ℕ} {o : Option Found} →
      AnsweredWith sets w 0 (holds_with k p nobody) last o → AnsweredWith sets w 0 (holds_with k' p nobody) last o
  same_answer p a = rw table at a

-- the search leaves the tables' users as they are
still : {from : ℕ} {decision : Deciding} {P : ℕ} {b : List ℕ} {s : Grounds} {was now : Users} → now ≡ was →
    Searching from decision P b s was → Searching from decision P b s now
still same ready = rw same ready

pub role_weights-w-requires : goal.role_weights-w-requires
role_weights-w-requires g c =
    let (_, _, _, below, ready) = c.requires in
    let few = permissions_le _ (accepted_frame _ ready.grounds.settled.accepted) in
    let fewer = ready.permissions in
    omega arith

pub fewest-requires : goal.fewest-requires
fewest-requires g c =
    let (_, _, _, _, ready) = c.requires in
    let b = c.args.self.now.base.now in
    let s = c.args.self.now.grounds.now.fixed in
    let grounds = ready.grounds in
    let ok = grounds.settled.accepted in
    let are = c.role_weights-w.ensures (rules_of s) b s.at ok grounds.chosen grounds.settled.fixed.juniors in (
      search rules,
      (
        same_seeking c.part-k.ensures.table ready.roles
            (seeking (rules_of s) b s.at c.args.permission ok _ _ are grounds.counted),
        (ready.users.sets, ready.users.ends),
      ),
    )

pub returns : goal.returns
returns g c = λ from decision P below ready.
    let b = c.args.self.now.base.now in
    let s = c.args.self.now.grounds.now.fixed in
    let grounds = ready.grounds in
    let ok = grounds.settled.accepted in
    let are = c.role_weights-w.ensures (rules_of s) b s.at ok grounds.chosen grounds.settled.fixed.juniors in
    let there : c.args.permission < permission_count b = let few = ready.permissions in omega arith in
    let (same, answer) = c.fewest.ensures in
    let a = same_answer c.part-k.ensures.table c.args.permission (answer ready.users.sets ready.users.ends) in (
      rw (ready.by, ready.anybody)
          (part_with _ _ _ _ ok there grounds.settled.in_range ready.users.acting are _ a c.part_of.ensures),
      still same ready,
    )
