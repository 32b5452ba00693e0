-- Each turn puts the line of one part behind those before it; the parts left begin with the next one.
use Rattle.std.proofs.Common.{◌≡◌, ◌*◌, drop}
use Rattle.release_list.specs.Writing.{SameBuffer, line_at}
use Rattle.release_list.proofs.Stores.{Begun}
use Rattle.release_list.proofs.text.Page.put_lines.Given as goal

abbrev pub invariant-loop-p : goal.invariant-loop-p
invariant-loop-p l =
    let at = l.p-iterator.a.start in
    record {
      begun : Begun (line_at l.parts) l.n l.initial.self.out.now l.initial.self.len l.self.out.now l.self.len at;
      end : l.p-iterator.a.end ≡ l.n;
      rest : l.p-iterator.b.rest.now ≡ drop (13 * at) l.parts;
      size : l.p-iterator.b.size ≡ 13;
      same : SameBuffer l.initial.self l.self;
    }
