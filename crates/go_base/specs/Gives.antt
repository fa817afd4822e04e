-- The one word of a contract for a call that takes memory: this value or this refusal, unless memory ran out.
--
-- A call answers a `Result X E`. What a value shows is told by a view, `X → Y`. What an error says is told by a
-- function `E → Option F`: the refusal that it names, or `None` where it says that memory ran out. The
-- definition's answer is a `Result Y F`.
use Rattle.std.specs.Prelude.{◌≡◌, Result, Ok, Err, Option, Some, None}

-- The refusal that an error names, if it names one, is such a refusal.
abbrev pub Unless : {F : Type 0} → Option F → (F → Type 0) → Type 0
Unless None P = Unit {0}
Unless (Some f) P = P f

-- What the call answered, seen by the view, is the definition's answer, unless memory ran out.
abbrev pub Gives : {X Y E F : Type 0} → (X → Y) → (E → Option F) → Result X E → Result Y F → Type 0
Gives view refusal_of (Ok x) answer = answer ≡ Ok (view x)
Gives view refusal_of (Err e) answer = Unless (refusal_of e) (λ f. answer ≡ Err f)

-- The same where the definition is a predicate: what the call answered is such a value or such a refusal,
-- unless memory ran out.
abbrev pub Meets : {X E F : Type 0} → (E → Option F) → Result X E → (X → Type 0) → (F → Type 0) → Type 0
Meets refusal_of (Ok x) P Q = P x
Meets refusal_of (Err e) P Q = Unless (refusal_of e) Q

-- The answer of a definition that goes on with the value of another one, and stops at its refusal.
infixl 10 ◌>>=◌
abbrev pub ◌>>=◌ : {A B F : Type 0} → Result A F → (A → Result B F) → Result B F
(Ok x) >>= f = f x
(Err e) >>= f = Err e
