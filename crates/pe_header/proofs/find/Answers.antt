use mathlib.Core.Path.{refl, sym}
use native.Mathlib.Omega.{arith}
use Rattle.flat_json.specs.Grammar.{residual, residuals, ws_byte, ws, begin_object, end_object, name_separator, value_separator, false_rule, null_rule}
use Rattle.flat_json.specs.Grammar.{true_rule, digit, int, hexdig, unescaped, short_escape, escaped, char, string, value, member, object, json_text}
use Rattle.flat_json.specs.Grammar.{after_value, after_name, in_string}
use Rattle.flat_json.proofs.Branches.{nullable, push, given, first, branches, ends}
use Rattle.flat_json.proofs.Follows.{behind, all_branches, any_ends, alike, follows}
use Rattle.flat_json.proofs.TableRule.{right, right_table}
use Rattle.pe_header.proofs.FindLaws.{find_long}
use Rattle.pe_header.proofs.find.Goals as goal

pub returns-then-header-gt4096 : goal.returns-then-header-gt4096
returns-then-header-gt4096 c =
    let a = c.args in
    sym (find_long a.header.now a.name.now c.if-header-gt4096.true)

pub find_by-requires : goal.find_by-requires
unfolding right follows alike all_branches any_ends behind branches ends first given push nullable residual residuals ws_byte ws begin_object end_object
    name_separator value_separator false_rule null_rule true_rule digit int hexdig unescaped short_escape escaped char string value member object
    json_text after_value after_name in_string
find_by-requires c = (right_table _ refl refl, omega (arith, c.if-header-gt4096.false))
