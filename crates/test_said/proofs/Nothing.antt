-- What has no fault left has no next one.
use Rattle.std.proofs.Common.{◌≡◌, List, [], ◌∷◌, sym, ◌∙◌}
use Rattle.fs_model.specs.declared.fault.Fault.{Fault}

none_some : (f : Fault) (rest : List Fault) → ◌≡◌ {A = List Fault} [] (f ∷ rest) → ⊥
none_some f rest e = cc

pub nothing_next : (left : List Fault) (f : Fault) (rest : List Fault) → left ≡ [] → left ≡ f ∷ rest → ⊥
nothing_next left f rest none is = none_some f rest (sym none ∙ is)
