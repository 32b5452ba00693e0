-- The lemmas of `Answered` make the text of the report's answer and parts.
use Rattle.std.proofs.Common.{ℕ, ◌+◌, ◌≡◌, ◌≤◌, List, length, arith, refl, sym, ◌∙◌}
use Rattle.reader.specs.declared.Answer.{Answer}
use Rattle.reader.proofs.Results.{refusal_pos}
use Rattle.reader.specs.Tables.{permissions, permission_count, record_count, table_of}
use Rattle.release_list.specs.Text.{ascii}
use Rattle.release_list.specs.Writing.{Written, Parts, lines_text}
use Rattle.release_list.proofs.Answered.{count_short, Ready, report_ready, refused_listed, done_listed}
use Rattle.release_list.proofs.Stores.{room_behind}
use Rattle.release_list.proofs.listing.put_report.Goals as goal

-- the lines for the permissions of a table that is the base's, put on a page that held no text
module _ (b parts : List ℕ) {table : List ℕ} {len : ℕ} (is : table ≡ table_of b permissions) (none : len ≡ 0) where
  abbrev lines : List ℕ
  lines = lines_text parts (record_count permissions table)

  lines_asked : {answer : Answer} {room : ℕ} → Ready b parts answer → 768 ≤ room →
      Parts parts (record_count permissions table) × (len + length lines ≤ room)
  lines_asked ready l = rw is (ready.parts, omega (arith, ready.lines, none))

  lines_written : {out now : List ℕ} {next : ℕ} → Written lines out len next now →
      Written (lines_text parts (permission_count b)) out 0 next now
  lines_written w = rw (is, none) at w

pub overflow_cast-permissions : goal.overflow_cast-permissions
overflow_cast-permissions c =
    let ready = report_ready _ _ _ _ _ refl c.in-Ok.ensures.promise refl (omega arith) in
    let few : record_count permissions c.table.result.now ≤ 16 = rw c.table.ensures ready.few in
    omega arith

pub put_lines-requires : goal.put_lines-requires
put_lines-requires c =
    let ready = report_ready _ _ _ _ _ refl c.in-Ok.ensures.promise refl (omega arith) in
    lines_asked c.args.base.now c.report.new.out c.table.ensures c.requires.0 ready c.requires.1

pub overflow_cast-count : goal.overflow_cast-count
overflow_cast-count c =
    let ready = report_ready _ _ _ _ _ refl c.in-Ok.ensures.promise refl (omega arith) in
    omega (arith, ready.count)

pub put_count-requires : goal.put_count-requires
put_count-requires c =
    let ready = report_ready _ _ _ _ _ refl c.in-Ok.ensures.promise refl (omega arith) in
    let lines = c.put_lines.ensures.written in
    let w = lines_written c.args.base.now c.report.new.out c.table.ensures c.requires.0 lines in
    room_behind _ w (omega (arith, ready.lines, ready.last, c.requires.1))

pub returns-in-Ok-clause-text : goal.returns-in-Ok-clause-text
returns-in-Ok-clause-text c =
    let lines = c.put_lines.ensures.written in
    let w = lines_written c.args.base.now c.report.new.out c.table.ensures c.requires.0 lines in
    done_listed _ _ _ _ _ refl c.in-Ok.ensures.promise refl c.requires.1 w c.put_count.ensures.written

pub put_count-requires-in-Err : goal.put_count-requires-in-Err
put_count-requires-in-Err c =
    let (none, room) = c.requires in
    omega (arith, none, room, count_short (ascii "refused ") c.into.result (omega arith))

pub returns-in-Err-clause-text : goal.returns-in-Err-clause-text
returns-in-Err-clause-text c =
    let (none, room) = c.requires in
    let answer = c.in-Err.ensures.promise in
    let w = c.put_count-in-Err.ensures.written in
    refused_listed _ _ _ _ _ refl (rw (← c.into.ensures) at answer) (λ e. refusal_pos _ (sym c.into.ensures ∙ e))
    room (rw none at w)
