use Rattle.go_stmts_callees.proofs.Windows.{window_calls, window_known}
use Rattle.go_stmts_callees.proofs.laws.windows_are_like_their_functions.Goals as goal

pub returns : goal.returns
returns c = record { called = λ t w h. window_calls t w h; known = λ t w h. window_known t w h }
