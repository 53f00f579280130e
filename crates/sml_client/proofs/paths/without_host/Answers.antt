use Rattle.std.proofs.Common.{◌≡◌, ◌==◌, None, Some, length, sym, ◌∙◌, lit<, arith}
use Rattle.std.specs.List.{position_or_len}
use Rattle.std.proofs.lemmas.Bool.{eq-eqb, ne_eqb}
use Rattle.std.proofs.lemmas.List.Sums.{position_or_len_is}
use Rattle.std.proofs.lemmas.Str.Pattern.{find_char}
use Rattle.sml_client.proofs.Addresses.{after_host, no_host}
use Rattle.sml_client.proofs.paths.without_host.Goals as goal

pub returns-in-Some : goal.returns-in-Some
returns-in-Some c =
    let rest = c.args.rest.now in
    let at = c.in-Some.at in
    let found = find_char 47 rest (Some at) c.in-Some.ensures.cases (lit< tt) in
    let first : position_or_len (λ b. b == 47) rest ≡ at = position_or_len_is (λ b. b == 47) rest at 0 (let h = found.0 in omega (arith, h)) (λ k h. ne_eqb _ _ (found.2 k h)) (λ _. eq-eqb _ _ found.1) in
    c.text_from.ensures ∙ sym (after_host rest at first found.0)

pub returns-in-None : goal.returns-in-None
returns-in-None c =
    let rest = c.args.rest.now in
    let none = find_char 47 rest None c.in-None.ensures.cases (lit< tt) in
    sym (no_host rest (position_or_len_is (λ b. b == 47) rest (length rest) 0 (omega arith) (λ k h. ne_eqb _ _ (none k h)) (λ h. absurd (omega (arith, h)))))
