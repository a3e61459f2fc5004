use mathlib.Core.Path.{refl}
use Rattle.flat_json.specs.Grammar.{residual, residuals, ws_byte, ws, begin_object, end_object, name_separator, value_separator, false_rule, null_rule}
use Rattle.flat_json.specs.Grammar.{true_rule, digit, int, hexdig, unescaped, short_escape, escaped, char, string, value, member, object, json_text}
use Rattle.flat_json.specs.Grammar.{after_value, after_name, in_string}
use Rattle.flat_json.proofs.Branches.{nullable, push, given, first, branches, ends}
use Rattle.flat_json.proofs.Follows.{behind, all_branches, any_ends, alike, follows}
use Rattle.flat_json.proofs.TableRule.{right, right_table}
use Rattle.flat_json.proofs.states.table.Goals as goal

-- the table's rule: one test, which antt computes over all entries
pub returns : goal.returns
unfolding right follows alike all_branches any_ends behind branches ends first given push nullable residual residuals ws_byte ws begin_object end_object
    name_separator value_separator false_rule null_rule true_rule digit int hexdig unescaped short_escape escaped char string value member object
    json_text after_value after_name in_string
returns c = right_table _ refl refl
