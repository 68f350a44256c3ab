use Rattle.std.proofs.Common.{refl}
use Rattle.ck_io.proofs.Untold.{if_ok, on_err, rose_by_one}
use Rattle.ck_io.proofs.real.RealFolderFolder.TheImpl.Goals as goal

pub names-tells : goal.names-tells
names-tells g c = record {
  kept = refl;
  counted = c.ensures.counted;
  named = if_ok c.result _ (λ _. tt);
  failed = λ is. rose_by_one _ _ (c.ensures.failed is);
  not_failed = c.ensures.not_failed;
}

pub read_at-tells : goal.read_at-tells
read_at-tells g c = record {
  kept = refl;
  counted = c.ensures.counted;
  within = c.ensures.within;
  read = if_ok c.result _ (λ _. tt);
  unread = on_err c.result _ _ (λ _. tt) c.ensures.failed;
  failed = on_err c.result _ _ (rose_by_one _ _) c.ensures.failed;
  not_failed = c.ensures.not_failed;
}
