use Rattle.std.proofs.Common.{subst, sym}
use Rattle.tgstore.specs.Words.{AreArgsOf, option_rules}
use Rattle.tgstore.proofs.WordLaws.{is_line}
use Rattle.tgstore.proofs.words.command.Goals as goal

pub returns-in-Ok : goal.returns-in-Ok
returns-in-Ok c =
    let are : AreArgsOf option_rules c.in_ok-options.options.items =
    subst (AreArgsOf option_rules) (sym c.in_ok-options.ensures.items)
    (c.number_arg.ensures.arg, (c.number_arg-2.ensures.arg, (c.number_arg-3.ensures.arg, (c.number_arg-4.ensures.arg, (c.option_arg.ensures.arg, (c.arg_of.ensures.arg, (c.arg_of-2.ensures.arg, (c.arg_of-3.ensures.arg, (c.arg_of-4.ensures.arg, (c.option_arg-2.ensures.arg, (c.option_arg-3.ensures.arg, tt))))))))))) in
    is_line c.in-Ok.command c.args-in-Ok.result c.in_ok-options.options.items c.in-Ok.ensures are c.args-in-Ok.ensures
