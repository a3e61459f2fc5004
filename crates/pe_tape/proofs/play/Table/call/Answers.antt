use mathlib.Core.Path.{◌≡◌, sym, ap, ◌∙◌}
use Rattle.pe_reassembler.specs.Calls.{cancelled_told}
use Rattle.pe_wire.specs.Errors.{pe_count}
use Rattle.pe_tape.specs.declared.command.Command.{Command}
use Rattle.pe_tape.specs.Play.{Called, make_call}
use Rattle.pe_tape.specs.Table.{memory_in}
use Rattle.pe_tape.specs.Told.{command_of}
use Rattle.pe_tape.proofs.CallLaws.{cancel_called, drop_called, poll_called}
use Rattle.pe_tape.proofs.play.Table.call.Goals as goal
use Rattle.pe_tape.proofs.play.Table.call.Goals.{Start}

-- what is told of the command that was matched is told of the command
told : (s : Start) (command : Command) (r : Called) → s.args.command ≡ command
    → r ≡ make_call (memory_in s.args.self.now) (command_of s.args.tape.now command)
    → r ≡ make_call (memory_in s.args.self.now) (command_of s.args.tape.now s.args.command)
told s command r e h = h ∙ sym (ap (λ (c : Command). make_call (memory_in s.args.self.now) (command_of s.args.tape.now c)) e)

pub returns-in-Cancel-clause-left : goal.returns-in-Cancel-clause-left
returns-in-Cancel-clause-left c =
    told (goal.at.returns-in-Cancel-clause-left c).Start _ _ c.in-Cancel.is
    (cancel_called _ (cancelled_told c.cancel.result) (memory_in c.args.self.now) _ _ _ c.cancel_shown.ensures c.cancel.ensures)

pub returns-in-Drop-clause-left : goal.returns-in-Drop-clause-left
returns-in-Drop-clause-left c =
    told (goal.at.returns-in-Drop-clause-left c).Start _ _ c.in-Drop.is
    (drop_called _ (pe_count c.drop_peer.result) (memory_in c.args.self.now) _ _ c.count_shown.ensures c.drop_peer.ensures)

pub returns-in-Poll-clause-left : goal.returns-in-Poll-clause-left
returns-in-Poll-clause-left c =
    told (goal.at.returns-in-Poll-clause-left c).Start _ _ c.in-Poll.is
    (poll_called _ (memory_in c.args.self.now) _ _ c.call_poll.ensures.0 c.call_poll.ensures.1)
