use Rattle.vt_pictures.proofs.Named.{pushed}
use Rattle.vt_pictures.proofs.names.picture_name.Goals as goal

pub returns : goal.returns
returns c = pushed _ _ _ _ _ _ _ _ _ _ _ _ c.in_ok-name.ensures.ok c.in_ok-push_digit.ensures c.in_ok-push_digit-2.ensures
    c.in_ok-push_digit-3.ensures c.in_ok-push_digit-4.ensures c.in_ok-push_str.ensures.bytes
