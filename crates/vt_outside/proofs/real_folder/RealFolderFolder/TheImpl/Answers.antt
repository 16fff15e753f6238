use Rattle.std.proofs.Common.{refl}
use Rattle.vt_outside.proofs.UnknownContents.{IfOk-all, OnOk-all, OnErr-all, same-if, Rose-raised}
use Rattle.vt_outside.proofs.real_folder.RealFolderFolder.TheImpl.Goals as goal

pub open-tells : goal.open-tells
open-tells g c = record {
  bytes = IfOk-all c.result _ (λ _. refl);
  known_too = IfOk-all c.result _ (λ _. refl);
  no_places = IfOk-all c.result _ (λ _. refl);
  name = IfOk-all c.result _ (λ _. tt);
  no_faults = c.ensures.no_faults;
  failed = λ failed _. Rose-raised c.result _ _ c.ensures.faults failed;
  files = refl;
  asked = refl;
  faults = c.ensures.rises;
}

pub create-tells : goal.create-tells
create-tells g c = record {
  files = same-if _ _;
  failed = Rose-raised c.result _ _ c.ensures.faults;
  asked = refl;
  faults = c.ensures.rises;
}

pub append-tells : goal.append-tells
append-tells g c = record {
  files = OnOk-all c.result _ refl;
  there = OnOk-all c.result _ tt;
  part = OnErr-all c.result _ (0, refl);
  failed = λ failed _. Rose-raised c.result _ _ c.ensures.faults failed;
  asked = refl;
  faults = c.ensures.rises;
}
