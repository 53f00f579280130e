use Rattle.std.proofs.Common.{sym, ap}
use Rattle.sml_objects.specs.Views.{initial_of}
use Rattle.sml_texts.specs.Text.{initial_text}
use Rattle.sml_texts.proofs.texts.initial_text.Goals as goal

pub returns-in-Int : goal.returns-in-Int
unfolding initial_text
returns-in-Int c = ap (λ n. initial_text (initial_of n)) (sym c.in-Int.is)

pub returns-in-Word : goal.returns-in-Word
unfolding initial_text
returns-in-Word c = ap (λ n. initial_text (initial_of n)) (sym c.in-Word.is)

pub returns-in-Char : goal.returns-in-Char
unfolding initial_text
returns-in-Char c = ap (λ n. initial_text (initial_of n)) (sym c.in-Char.is)

pub returns-in-String : goal.returns-in-String
unfolding initial_text
returns-in-String c = ap (λ n. initial_text (initial_of n)) (sym c.in-String.is)

pub returns-in-Bool : goal.returns-in-Bool
unfolding initial_text
returns-in-Bool c = ap (λ n. initial_text (initial_of n)) (sym c.in-Bool.is)

pub returns-in-Exn : goal.returns-in-Exn
unfolding initial_text
returns-in-Exn c = ap (λ n. initial_text (initial_of n)) (sym c.in-Exn.is)

pub returns-in-Real : goal.returns-in-Real
unfolding initial_text
returns-in-Real c = ap (λ n. initial_text (initial_of n)) (sym c.in-Real.is)

pub returns-in-List : goal.returns-in-List
unfolding initial_text
returns-in-List c = ap (λ n. initial_text (initial_of n)) (sym c.in-List.is)

pub returns-in-Ref : goal.returns-in-Ref
unfolding initial_text
returns-in-Ref c = ap (λ n. initial_text (initial_of n)) (sym c.in-Ref.is)
