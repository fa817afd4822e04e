use Rattle.std.proofs.Common.{◌≡◌, Bool, true, false, ◌&&◌, ◌||◌, not, Option, Some, ◌∙◌, cond, sym, ap}
use Rattle.std.specs.Prelude.{unwrap_or}
use Rattle.std.specs.HashMap.{get}
use Rattle.std.specs.HashMap.Eq.{lookup_congr}
use Rattle.go_tree.specs.Redeclared.{has_clash}
use Rattle.go_scopes_lookup.specs.Views.{found_view}
use Rattle.go_scopes_lookup.specs.Keys.{same_key, is_parameter, clashes_by}
use Rattle.go_scopes_lookup.proofs.Named.{key_laws, one_clash, clash_more, name_step}
use Rattle.go_scopes_lookup.proofs.keys.add_name.Goals as goal

pub returns : goal.returns
returns c xs known d j dj =
    let x = found_view c.args.d.now in
    let l = c.key_of-key.result in
    let m = c.args.names.now in
    let p : Bool = is_parameter x.it.entity in
    let q : Bool = is_parameter d.it.entity in
    let k : Bool = same_key l j in
    let before : Option Bool = get same_key m j in
    let own : Option Bool = get same_key m l in
    let had : c.copied.result ≡ own = c.copied.ensures ∙ c.get.ensures.value in
    let other : c.is_other-other.result ≡ (unwrap_or own false || not p) = c.is_other-other.ensures ∙ ap (λ o. unwrap_or o false || not p) had in
    let now : get same_key c.insert.new.self j ≡ cond k (Some c.is_other-other.result) before = c.in_ok-insert.ensures.updates.0 j in
    let there : get same_key c.insert.new.self j ≡ cond k (Some (unwrap_or own false || not p)) before = now ∙ ap (λ b. cond k (Some b) before) other in
    let alike : k ≡ true → own ≡ before = λ e. lookup_congr same_key key_laws.congr m.entries l j e in
    ap (clashes_by q) there ∙ (name_step p q k before own alike ∙ (ap (λ b. b || (k && not (q && p))) (known d j dj) ∙ (ap (λ b. has_clash d xs || b) (one_clash d x j l dj c.key_of-key.ensures) ∙ sym (clash_more d xs x))))
