use Rattle.vt_journal.proofs.Fronts.{front_of_front, front_of_three}
use Rattle.vt_journal.proofs.write.add_begin.Goals as goal

pub returns-clause-front : goal.returns-clause-front
returns-clause-front c =
    front_of_three c.args.text.now.items c.add_named.new.text.items c.add_named-2.new.text.items c.add_named-3.new.text.items
    c.in_ok-add_named.ensures.front c.in_ok-add_named-2.ensures.front c.add_named-3.ensures.front

pub returns-in_err-add_named-2-clause-front : goal.returns-in_err-add_named-2-clause-front
returns-in_err-add_named-2-clause-front c =
    front_of_front c.args.text.now.items c.add_named.new.text.items c.add_named-2.new.text.items
    c.in_ok-add_named.ensures.front c.in_err-add_named-2.ensures.front
