use Rattle.std.proofs.Common.{Err, refl}
use Rattle.ecma_front.proofs.command.answer.Goals as goal

pub returns-in-Ok : goal.returns-in-Ok
returns-in-Ok g c = record { result = c.carry_out.result; ran = c.carry_out.ensures.ran; says = rw c.in-Ok.is refl; text = c.carry_out.new.kept.items; read = c.carry_out.ensures.kept; told = rw c.in-Ok.is refl }

pub returns : goal.returns
returns g c =
    let e = c.exit_of-exit.ensures in
    let exit = c.exit_of-exit.result in
    record {
      result = Err c.in-Err.fault;
      ran = c.in-Err.ensures.ran;
      says = e.status;
      text = c.carry_out.new.kept.items;
      read = c.in-Err.ensures.kept;
      told = (_, record { place = exit.place; message = exit.message.now; refused = e.refused; lies = rw c.as_slice.ensures.value at e.place; says = e.message; spells = refl }, c.print_line.ensures);
    }
