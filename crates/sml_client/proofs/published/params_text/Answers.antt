use Rattle.std.proofs.Common.{◌≡◌, ◌++◌, ◌∷◌, ℕ, List, [], codes, refl, append_assoc, append-nil, subst}
use Rattle.sml_reply.specs.Sinks.{in_turn}
use Rattle.sml_client.specs.Answers.{version_member}
use Rattle.sml_client.specs.Texts.{Adds, json_string}
use Rattle.sml_client.proofs.Growing.{adds_more, finished}
use Rattle.sml_client.proofs.published.params_text.Goals as goal

joined : (a b d u v e : List ℕ) → in_turn (a ∷ b ∷ d ∷ u ∷ v ∷ e ∷ []) ≡ ((in_turn (a ∷ b ∷ d ∷ []) ++ u) ++ v) ++ e
joined a b d u v e = simp (append_assoc, append-nil)

pub returns : goal.returns
returns c =
    let none = c.new-text.result in
    let a = codes "{\"diagnostics\":[" in
    let d = codes "],\"uri\":" in
    let list = in_turn (a ∷ c.args.list.now ∷ d ∷ []) in
    let u = json_string c.args.uri.now in
    let v = version_member c.args.version in
    let e = codes "}" in
    let uri = subst (λ l. Adds c.push_all.new.self c.push_string.new.self (json_string l)) c.as_bytes.ensures.value c.push_string.ensures in
    let one = adds_more none c.push_all.new.self c.push_string.new.self list u (list ++ u) c.push_all.ensures uri refl in
    let two = adds_more none c.push_string.new.self c.push_version.new.text (list ++ u) v ((list ++ u) ++ v) one c.push_version.ensures refl in
    let all = adds_more none c.push_version.new.text c.push.new.self ((list ++ u) ++ v) e _ two c.push.ensures.added (joined a c.args.list.now d u v e) in
    finished none c.push.new.self _ c.finish.result c.new-text.ensures.bytes all c.finish.ensures
