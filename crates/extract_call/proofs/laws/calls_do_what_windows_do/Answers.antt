use Rattle.extract_call.proofs.Likewise.{call_does_as_window, window_does_as_call}
use Rattle.extract_call.proofs.laws.calls_do_what_windows_do.Goals as goal

pub returns-clause-call : goal.returns-clause-call
returns-clause-call c = call_does_as_window

pub returns-clause-window : goal.returns-clause-window
returns-clause-window c = window_does_as_call
