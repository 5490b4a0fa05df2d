use Rattle.kc_equations.proofs.ChoiceLaws.{takes_one, takes_none}
use Rattle.kc_equations.proofs.law.choices_take_one_member.Goals as goal

pub returns : goal.returns
returns c = record {
  one = λ menu wishes values place choice is. takes_one menu wishes values place choice is;
  none = λ menu wishes values place choice is. takes_none menu wishes values place choice is;
}
