-- The places of members that stand twice, one event after another.
use Rattle.std.proofs.Common.{◌≡◌, ◌∙◌, ℕ, suc, ◌+◌, ◌<◌, refl, sym, ap, subst, Option, List, [], ◌∷◌, ◌++◌, length, take, drop, get_or, drop-cons, add-one}
use Rattle.std.proofs.Math.Seq.{take-suc}
use Rattle.go_tokens.specs.Tokens.{TokenList}
use Rattle.go_base.specs.declared.fault.FaultCode.{FaultCode}
use Rattle.go_tree.specs.declared.event.Event.{Event}
use Rattle.go_tree.specs.declared.event.Event.TheVariants as event
use Rattle.go_tree.specs.Units.{Place, word, bytes_at}
use Rattle.go_tree.specs.Failures.{Failure}
use Rattle.go_tree.specs.Duplicates.{is_duplicate, member_place, second_members}
use Rattle.go_scopes.specs.Noted.{noted}
use Rattle.go_scopes.proofs.Least.{noted_place_if}

noted_member_place : (f : Option Failure) (c : FaultCode) (before : List Event) (n : ℕ) (ts : TokenList) (e : Event) (ss : List Place) → noted f c (member_place before n ts e ss) ≡ noted (noted f c (member_place before n ts e [])) c ss
noted_member_place f c before n ts (event.Member m g x) ss = noted_place_if f c (is_duplicate m g (word ts x) ts before) (bytes_at n ts x) ss
noted_member_place f c before n ts e ss = refl

-- one event further, where the events are read from a copy of their list
pub noted_second : (f g : Option Failure) (c : FaultCode) (n : ℕ) (ts : TokenList) (i : ℕ) (es read : List Event) (d : Event) → read ≡ es → i < length read → g ≡ noted f c (member_place (take i es) n ts (get_or read i d) []) → noted g c (second_members (take (i + 1) es) n ts (drop (i + 1) es)) ≡ noted f c (second_members (take i es) n ts (drop i es))
noted_second f g c n ts i es read d same inside found =
    let here : i < length es = subst (λ l. i < length l) same inside in
    let e : Event = get_or es i d in
    let told : g ≡ noted f c (member_place (take i es) n ts e []) = found ∙ ap (λ l. noted f c (member_place (take i es) n ts (get_or l i d) [])) same in
    ap (λ k. noted g c (second_members (take k es) n ts (drop k es))) (add-one i)
    ∙ ap (λ l. noted g c (second_members l n ts (drop (suc i) es))) (take-suc es i d here)
    ∙ ap (λ x. noted x c (second_members (take i es ++ e ∷ []) n ts (drop (suc i) es))) told
    ∙ sym (noted_member_place f c (take i es) n ts e (second_members (take i es ++ e ∷ []) n ts (drop (suc i) es)))
    ∙ ap (λ l. noted f c (second_members (take i es) n ts l)) (sym (drop-cons es i d here))
