-- The texts of replies that occur only in scripts with bundles, without their line end. Own rule.
use Rattle.std.specs.Prelude.{ℕ, List, ◌++◌, codes, decimal}
use Rattle.bundle_lines.specs.declared.replies.BundleReply.{BundleReply}
use Rattle.bundle_lines.specs.declared.replies.BundleReply.TheVariants.{Pumped, NoBundle, NoLeg, WrongKind, Bound}

abbrev pub bundle_reply_text : BundleReply → List ℕ
bundle_reply_text (Pumped forwarded dropped) = codes "pumped " ++ decimal forwarded ++ codes " " ++ decimal dropped
bundle_reply_text NoBundle = codes "refused nobundle"
bundle_reply_text (NoLeg legs) = codes "refused noleg " ++ decimal legs
bundle_reply_text WrongKind = codes "refused wrongkind"
bundle_reply_text (Bound bundle) = codes "refused bound " ++ decimal bundle
