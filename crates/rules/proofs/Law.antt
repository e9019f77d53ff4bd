-- The law over runs.
use Rattle.std.proofs.Common.{refl}
use Rattle.rules.specs.Law.{RunsEndAlike}
use Rattle.rules.proofs.Runs.{altered_alike, order_kept}

pub runs_end_alike : RunsEndAlike
runs_end_alike = record {
  law = λ S mail. record {
    runs = λ g w r. altered_alike S r w;
    listed = order_kept S;
    alone = λ g t p n. refl;
  };
}
