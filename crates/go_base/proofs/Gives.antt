-- Laws of `Gives`, `Meets` and `Unless`: what a call answers that goes on with the value of another call.
use Rattle.std.proofs.Common.{◌≡◌, sym, subst, ap, ◌∙◌}
use Rattle.std.specs.Prelude.{Result, Ok, Err, Option, Some, None}
use Rattle.std.specs.Option.{option_map}
use Rattle.go_base.specs.Gives.{Unless, Gives, Meets, ◌>>=◌}

-- ---- `Unless`

pub unless_map : {F : Type 0} (o : Option F) (P Q : F → Type 0) → ((f : F) → P f → Q f) → Unless o P → Unless o Q
unless_map None P Q h u = tt
unless_map (Some f) P Q h u = h f u

pub unless_all : {F : Type 0} (o : Option F) (P : F → Type 0) → ((f : F) → P f) → Unless o P
unless_all None P h = tt
unless_all (Some f) P h = h f

-- the refusal is named by another error, and perhaps by another name
pub unless_named : {F G : Type 0} (name : F → G) (o : Option F) (p : Option G) (P : F → Type 0) (Q : G → Type 0) → p ≡ option_map name o → ((f : F) → P f → Q (name f)) → Unless o P → Unless p Q
unless_named name None None P Q e h u = tt
unless_named name None (Some g) P Q e h u = cc
unless_named name (Some f) None P Q e h u = cc
unless_named {G = G} name (Some f) (Some g) P Q e h u =
    let same : g ≡ name f = cc in
    subst Q (sym same) (h f u)

-- ---- `Gives` at one of its cases

pub gives_ok : {X Y E F : Type 0} (view : X → Y) (refusal_of : E → Option F) (r : Result X E) (x : X) (answer : Result Y F) → r ≡ Ok x → Gives view refusal_of r answer → answer ≡ Ok (view x)
gives_ok view refusal_of (Ok z) x answer e g = let same : z ≡ x = cc in g ∙ ap (λ w. Ok (view w)) same
gives_ok view refusal_of (Err z) x answer e g = cc

pub gives_err : {X Y E F : Type 0} (view : X → Y) (refusal_of : E → Option F) (r : Result X E) (e : E) (answer : Result Y F) → r ≡ Err e → Gives view refusal_of r answer → Unless (refusal_of e) (λ f. answer ≡ Err f)
gives_err view refusal_of (Ok z) e answer is g = cc
gives_err view refusal_of (Err z) e answer is g = let same : z ≡ e = cc in subst (λ w. Unless (refusal_of w) (λ f. answer ≡ Err f)) same g

-- an answer that is another one's
pub gives_same : {X Y E F : Type 0} (view : X → Y) (refusal_of : E → Option F) (r : Result X E) (a b : Result Y F) → a ≡ b → Gives view refusal_of r a → Gives view refusal_of r b
gives_same view refusal_of r a b e g = subst (Gives view refusal_of r) e g

-- ---- going on by `?`

-- The inner call's refusal is the whole's.
pub gives_stop : {E F A B : Type 0} (refusal_of : E → Option F) (e : E) (inner : Result A F) (f : A → Result B F) → Unless (refusal_of e) (λ r. inner ≡ Err r) → Unless (refusal_of e) (λ r. (inner >>= f) ≡ Err r)
gives_stop refusal_of e inner f = unless_map (refusal_of e) (λ r. inner ≡ Err r) (λ r. (inner >>= f) ≡ Err r) (λ r is. ap (λ x. x >>= f) is)

-- The inner call's value goes on.
pub gives_go : {X Y A E F : Type 0} (view : X → Y) (refusal_of : E → Option F) (r : Result X E) (inner : Result A F) (f : A → Result Y F) (a : A) → inner ≡ Ok a → Gives view refusal_of r (f a) → Gives view refusal_of r (inner >>= f)
gives_go view refusal_of r inner f a is g = subst (Gives view refusal_of r) (sym (ap (λ x. x >>= f) is)) g

-- ---- `Meets`

-- what was answered is also such a value, and an error also names such a refusal
pub meets_map : {X E F G : Type 0} (f : E → Option F) (g : E → Option G) (r : Result X E) (P Q : X → Type 0) (R : F → Type 0) (S : G → Type 0) → ((x : X) → P x → Q x) → ((e : E) → Unless (f e) R → Unless (g e) S) → Meets f r P R → Meets g r Q S
meets_map f g (Ok x) P Q R S h k m = h x m
meets_map f g (Err e) P Q R S h k m = k e m
