-- `fill_sized` meets its contract: its search is ready for each permission.
use Rattle.std.proofs.Common.{ℕ, List, [], ◌≡◌, refl, arith}
use mathlib.Core.Path.{◌∙◌}
use Rattle.reader.specs.Tables.{permission_count, role_count}
use Rattle.weights.specs.Setting.{rules_of}
use Rattle.multisets.specs.declared.ends.Users.{Users}
use Rattle.report.specs.declared.parts.Grounds.{Grounds}
use Rattle.report.specs.Smallest.{Deciding}
use Rattle.report.specs.Parts.{GroundsOf, FilledBy}
use Rattle.vouch.specs.Report.{led_vouched}
use Rattle.vouch.specs.Parts.{AskedFor, Among, SearchingLed}
use Rattle.vouch.specs.declared.parts.Asked.{Asked}
use Rattle.vouch.proofs.parts.fill_sized.Goals as goal

-- as many permissions as the base has
of_all : {decision : Deciding} {n P count : ℕ} {out after : List ℕ} → n ≡ P → FilledBy 1 decision n out after count →
    FilledBy 1 decision P out after count
of_all e f = rw e at f

-- a search with tables for these users, of all permissions, is ready
ready : {b : List ℕ} {g : Grounds} {asked : Asked} {among n : ℕ} {nexts : List ℕ} {users : Users} {register : List ℕ}
    {threshold : ℕ} → GroundsOf b g → rules_of g.fixed ≡ [] → n ≡ permission_count b → Among asked among nexts →
    users.nexts ≡ nexts → users.d ≡ role_count b → AskedFor register threshold b g.fixed.at asked →
    SearchingLed 1 (led_vouched register threshold b g.fixed.at asked.requester) n b g asked among users
ready {register = register} {threshold = threshold} grounds plain all beside same roles a = record {
  led = refl;
  register = register;
  threshold = threshold;
  by = refl;
  asked_for = a;
  permissions = omega (arith, all);
  grounds = grounds;
  plain = plain;
  users = rw same beside;
  roles = roles;
}

pub fill-requires : goal.fill-requires
fill-requires g c =
    let r = c.requires in
    let (register, threshold, a) = r.2 in
    let (d, nexts) = c.new-tables.ensures in
    let all = c.permission_count.ensures in
    let roles = d ∙ c.wide.ensures.0 ∙ c.role_count.ensures.0 in
    ((_, _, ready r.0 r.1 all c.nexts_among-nexts.ensures nexts roles a), omega (arith, r.7))

pub returns : goal.returns
returns g c = λ register threshold a.
    let r = c.requires in
    let (d, nexts) = c.new-tables.ensures in
    let all = c.permission_count.ensures in
    let roles = d ∙ c.wide.ensures.0 ∙ c.role_count.ensures.0 in
    of_all all (c.fill.ensures _ _ (ready r.0 r.1 all c.nexts_among-nexts.ensures nexts roles a))
