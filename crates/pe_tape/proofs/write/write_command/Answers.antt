use mathlib.Core.List.{[]}
use mathlib.Core.Path.{sym, ap, ◌∙◌}
use lib.ListN.{length}
use Rattle.seven_bit.specs.Reply.{Outcome, writing}
use Rattle.pe_tape.specs.declared.command.Command.{Command}
use Rattle.pe_tape.specs.Told.{write_call}
use Rattle.pe_tape.proofs.OperandLaws.{bytes_are}
use Rattle.pe_tape.proofs.WritingLaws.{asked, cancel_call, short_call, drop_call, poll_call}
use Rattle.pe_tape.proofs.write.write_command.Goals as goal
use Rattle.pe_tape.proofs.write.write_command.Goals.{Start}

-- what is to be left for a command
abbrev answer : Start → Command → Outcome
answer c k = writing (write_call k c.args.source.now (length c.args.out.now)) c.args.out.now

pub returns-in-Cancel : goal.returns-in-Cancel
returns-in-Cancel c =
    let k = c.in-Cancel in
    c.write_cancel.ensures
    ∙ asked c.args.out.now (cancel_call k.peer k.request_id [] _ ∙ sym (cancel_call k.peer k.request_id c.args.source.now _))
    ∙ ap (answer (goal.at.returns-in-Cancel c).Start) (sym k.is)

pub returns-in-Drop : goal.returns-in-Drop
returns-in-Drop c =
    c.write_short.ensures
    ∙ asked c.args.out.now (short_call 3 4 _ _ (length c.args.out.now) (c.to_le_bytes.ensures ∙ bytes_are 4 c.in-Drop.peer) ∙ sym (drop_call c.in-Drop.peer c.args.source.now _))
    ∙ ap (answer (goal.at.returns-in-Drop c).Start) (sym c.in-Drop.is)

pub returns-in-Poll : goal.returns-in-Poll
returns-in-Poll c =
    c.write_short-in-Poll.ensures
    ∙ asked c.args.out.now (short_call 4 8 _ _ (length c.args.out.now) (c.to_le_bytes-in-Poll.ensures ∙ bytes_are 8 c.in-Poll.now_ms) ∙ sym (poll_call c.in-Poll.now_ms c.args.source.now _))
    ∙ ap (answer (goal.at.returns-in-Poll c).Start) (sym c.in-Poll.is)
