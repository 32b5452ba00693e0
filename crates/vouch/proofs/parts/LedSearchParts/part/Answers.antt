-- `part` meets its contract: the search's answer is a smallest group that the requester leads, or that there is none.
use Rattle.std.proofs.Common.{ℕ, ◌<◌, List, [], Option, ◌≡◌, get_or, ap, arith, rules}
use mathlib.Core.Path.{◌∙◌}
use Rattle.reader.specs.Tables.{permission_count}
use Rattle.reader.proofs.Frame.{permissions_le, users_le}
use Rattle.reader.proofs.Accepted.{accepted_frame}
use Rattle.weights.specs.declared.Context.{Context}
use Rattle.decision.specs.Conditions.{permission_holds}
use Rattle.weights.specs.Setting.{rules_of, AreWeights}
use Rattle.report.proofs.Part.{same_seeking, seeking}
use Rattle.report.specs.Smallest.{Deciding}
use Rattle.report.specs.declared.parts.Grounds.{Grounds}
use Rattle.multisets.specs.declared.ends.Users.{Users}
use Rattle.vouch.specs.declared.parts.Asked.{Asked}
use Rattle.seek.specs.Led.{FewestLed}
use Rattle.vouch.specs.Parts.{SearchingLed, Among}
use Rattle.seek.specs.declared.led.Led.{Led}
use Rattle.vouch.proofs.Granted.{Askable}
use Rattle.vouch.proofs.Part.{part_with}
use Rattle.vouch.proofs.parts.LedSearchParts.part.Goals as goal

-- the roles' weights are those without a list
plain_weights : {rules b w : List ℕ} {at : Context} {p : ℕ} → rules ≡ [] → AreWeights rules b at p w →
    AreWeights [] b at p w
plain_weights e are = rw e at are

-- what is found in the same table K, with the same set of roles
found_as : (p : ℕ) {others w k k' : List ℕ} {own own' : ℕ} {o : Option Led} → k ≡ k' → own ≡ own' →
    FewestLed others w own (permission_holds k p) 6 o → FewestLed others w own' (permission_holds k' p) 6 o
found_as p e h f = rw (e, h) at f

-- the search leaves the tables' users as they were made
still : {from : ℕ} {decision : Deciding} {P : ℕ} {b : List ℕ} {s : Grounds} {asked : Asked} {among v : ℕ}
    {before was now : Users} → SearchingLed from decision P b s asked among before → now ≡ was →
    Among asked v was.nexts → was.d ≡ before.d → SearchingLed from decision P b s asked v now
still ready same users roles = rw same (record {
  led = ready.led;
  register = ready.register;
  threshold = ready.threshold;
  by = ready.by;
  asked_for = ready.asked_for;
  permissions = ready.permissions;
  grounds = ready.grounds;
  plain = ready.plain;
  users = users;
  roles = roles ∙ ready.roles;
})

pub bounds-asked-from : goal.bounds-asked-from
bounds-asked-from g c =
    let (_, _, _, below, ready) = c.requires in
    let few = permissions_le _ (accepted_frame _ ready.asked_for.lent.accepted) in
    let there = ready.permissions in
    omega (arith, c.from.ensures)

pub turn_to-requires : goal.turn_to-requires
turn_to-requires g c =
    let (_, _, _, _, ready) = c.requires in
    (search rules, ((_, ready.asked_for.acting), ready.users))

pub role_weights-w-requires : goal.role_weights-w-requires
role_weights-w-requires g c =
    let (_, _, _, below, ready) = c.requires in
    let few = permissions_le _ (accepted_frame _ ready.asked_for.lent.accepted) in
    let there = ready.permissions in
    omega arith

pub bounds-asked-from-2 : goal.bounds-asked-from-2
bounds-asked-from-2 g c =
    let (_, _, _, _, ready) = c.requires in
    let few = users_le _ (accepted_frame _ ready.asked_for.lent.accepted) in
    let there = ready.asked_for.there in
    omega (arith, c.from-2.ensures)

pub fewest_led-led-requires : goal.fewest_led-led-requires
fewest_led-led-requires g c =
    let (_, _, _, _, ready) = c.requires in
    let b = c.args.self.now.base.now in
    let s = c.args.self.now.grounds.now in
    let grounds = ready.grounds in
    let ok = grounds.settled.accepted in
    let juniors = grounds.settled.fixed.juniors in
    let are = c.role_weights-w.ensures (rules_of s.fixed) b s.fixed.at ok grounds.chosen juniors in (
      search rules,
      (
        same_seeking c.part-k.ensures.table (c.turn_to.ensures.1 ∙ ready.roles)
            (seeking (rules_of s.fixed) b s.fixed.at c.args.permission ok _ s.counts are grounds.counted),
        (c.turn_to.ensures.0.others, c.turn_to.ensures.0.ends),
      ),
    )

pub returns : goal.returns
returns g c = λ from decision P below ready.
    let b = c.args.self.now.base.now in
    let s = c.args.self.now.grounds.now in
    let grounds = ready.grounds in
    let ok = grounds.settled.accepted in
    let juniors = grounds.settled.fixed.juniors in
    let are = c.role_weights-w.ensures (rules_of s.fixed) b s.fixed.at ok grounds.chosen juniors in
    let a = ready.asked_for in
    let asked = c.args.self.now.asked.now in
    let here : c.args.permission < 16 =
    let few = permissions_le b (accepted_frame b ok) in let there = ready.permissions in omega arith in
    let there : c.args.permission < permission_count b = let few = ready.permissions in omega arith in
    let askable : Askable b s.fixed.at c.args.permission =
    record { there = there; in_range = grounds.settled.in_range } in
    let (among, roles) = c.turn_to.ensures in
    let (same, answer) = c.fewest_led-led.ensures in
    let own = ap (λ (u : ℕ). get_or asked.sets u 0) c.from-2.ensures in
    let of = rw c.from.ensures at among.of in
    let found = found_as c.args.permission c.part-k.ensures.table own (answer among.others among.ends) in
    let part = part_with ready.register ready.threshold b s.fixed.at asked.requester c.args.permission ok here a.acting
    a.vouching of (plain_weights ready.plain are) a.lent askable _ found c.part_of.ensures in
    (rw (ready.led, ready.by) part, still ready same among roles)
