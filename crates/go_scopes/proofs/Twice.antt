-- The places of names that stand twice, one after the other.
use Rattle.std.proofs.Common.{◌≡◌, ◌∙◌, ℕ, suc, ◌+◌, ◌<◌, Bool, true, false, refl, sym, ap, subst, List, [], ◌∷◌, ◌++◌, length, take, drop, get_or, drop-cons, append_assoc, add-one}
use Rattle.std.proofs.Math.Seq.{take-suc}
use Rattle.go_tokens.specs.Tokens.{TokenList}
use Rattle.go_tree.specs.declared.event.Event.{Event}
use Rattle.go_tree.specs.declared.event.Event.TheVariants as event
use Rattle.go_tree.specs.declared.event.Member.TheVariants as member
use Rattle.go_tree.specs.Units.{word, bytes_at}
use Rattle.go_tree.specs.Duplicates.{is_duplicate}
use Rattle.go_tree.specs.Repeated.{NamePlace, place_if, parameter_place, parameters_in}

pub if_append : (b : Bool) (p : NamePlace) (ps : List NamePlace) → place_if b p [] ++ ps ≡ place_if b p ps
if_append true p ps = refl
if_append false p ps = refl

place_append : (before : List Event) (n : ℕ) (ts : TokenList) (e : Event) (ps : List NamePlace) → parameter_place before n ts e [] ++ ps ≡ parameter_place before n ts e ps
place_append before n ts (event.Member member.Parameter g x) ps = if_append (is_duplicate member.Parameter g (word ts x) ts before) (record { file = n; token = x; place = bytes_at n ts x }) ps
place_append before n ts e ps = refl

-- one event further, where the events are read from a copy of their list
pub parameters_more : (out new : List NamePlace) (n : ℕ) (ts : TokenList) (i : ℕ) (es read : List Event) (d : Event) → read ≡ es → i < length read → new ≡ out ++ parameter_place (take i es) n ts (get_or read i d) [] → new ++ parameters_in (take (i + 1) es) n ts (drop (i + 1) es) ≡ out ++ parameters_in (take i es) n ts (drop i es)
parameters_more out new n ts i es read d same inside found =
    let here : i < length es = subst (λ l. i < length l) same inside in
    let e : Event = get_or es i d in
    let rest = parameters_in (take i es ++ e ∷ []) n ts (drop (suc i) es) in
    let told : new ≡ out ++ parameter_place (take i es) n ts e [] = found ∙ ap (λ l. out ++ parameter_place (take i es) n ts (get_or l i d) []) same in
    ap (λ k. new ++ parameters_in (take k es) n ts (drop k es)) (add-one i)
    ∙ ap (λ l. new ++ parameters_in l n ts (drop (suc i) es)) (take-suc es i d here)
    ∙ ap (λ x. x ++ rest) told
    ∙ append_assoc out (parameter_place (take i es) n ts e []) rest
    ∙ ap (λ l. out ++ l) (place_append (take i es) n ts e rest)
    ∙ ap (λ l. out ++ parameters_in (take i es) n ts l) (sym (drop-cons es i d here))
