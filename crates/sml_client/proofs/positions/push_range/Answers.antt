use Rattle.std.proofs.Common.{◌≡◌, ◌++◌, ◌∷◌, ℕ, List, [], codes, refl, append_assoc, append-nil}
use Rattle.sml_reply.specs.Sinks.{in_turn}
use Rattle.sml_client.specs.Positions.{position_json}
use Rattle.sml_client.proofs.Growing.{adds_more}
use Rattle.sml_client.proofs.positions.push_range.Goals as goal

joined : (a b d p m q e : List ℕ) → in_turn (a ∷ b ∷ d ∷ p ∷ m ∷ q ∷ e ∷ []) ≡ (((in_turn (a ∷ b ∷ d ∷ []) ++ p) ++ m) ++ q) ++ e
joined a b d p m q e = simp (append_assoc, append-nil)

pub returns : goal.returns
returns c =
    let none = c.args.text.now in
    let a = codes "\"" in
    let d = codes "\":{\"start\":" in
    let name = in_turn (a ∷ c.args.name.now ∷ d ∷ []) in
    let p = position_json c.args.range.start in
    let m = codes ",\"end\":" in
    let q = position_json c.args.range.end in
    let e = codes "}" in
    let one = adds_more none c.push_all.new.self c.push_position.new.text name p (name ++ p) c.push_all.ensures c.push_position.ensures refl in
    let two = adds_more none c.push_position.new.text c.push.new.self (name ++ p) m ((name ++ p) ++ m) one c.push.ensures.added refl in
    let three = adds_more none c.push.new.self c.push_position-2.new.text ((name ++ p) ++ m) q (((name ++ p) ++ m) ++ q) two c.push_position-2.ensures refl in
    adds_more none c.push_position-2.new.text c.push-2.new.self (((name ++ p) ++ m) ++ q) e _ three c.push-2.ensures.added (joined a c.args.name.now d p m q e)
