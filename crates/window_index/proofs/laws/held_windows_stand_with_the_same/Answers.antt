use Rattle.std.specs.Prelude.{nat_eq}
use Rattle.clone_window.specs.Bodies.{bodies_of, same_in}
use Rattle.clone_window.specs.Fields.{field_text}
use Rattle.clone_classes.proofs.Public.{within, numbers}
use Rattle.window_index.proofs.Classified.{held-alike, held-together}
use Rattle.window_index.proofs.laws.held_windows_stand_with_the_same.Goals as goal

pub returns-clause-alike : goal.returns-clause-alike
returns-clause-alike c = λ number p windows buckets fits group w v m h k.
    held-alike number (same_in p) windows buckets (within nat_eq numbers (field_text p.types) (bodies_of p.functions)) fits group w v m h k

pub returns-clause-together : goal.returns-clause-together
returns-clause-together c = λ number p windows buckets law fits group other w v m n h k s.
    held-together number (same_in p) windows buckets (within nat_eq numbers (field_text p.types) (bodies_of p.functions)) law fits group other w v m n h k s
