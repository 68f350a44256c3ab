use Rattle.std.proofs.Common.{refl}
use Rattle.ck_io.proofs.Untold.{if_ok, on_err, rose_by_one}
use Rattle.ck_io.proofs.real.RealSinkSink.TheImpl.Goals as goal

pub write-tells : goal.write-tells
write-tells g c = record {
  counted = c.ensures.counted;
  within = c.ensures.within;
  some = c.ensures.some;
  takes = if_ok c.result _ (λ _. refl);
  takes_nothing = on_err c.result _ _ (λ _. refl) c.ensures.failed;
  failed = on_err c.result _ _ (rose_by_one _ _) c.ensures.failed;
  not_failed = c.ensures.not_failed;
}
