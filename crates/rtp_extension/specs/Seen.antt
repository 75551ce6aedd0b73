-- The elements that the iterators return, as their contents.
use Rattle.std.specs.Prelude.{ℕ, List, Option, Some, None}
use Rattle.std.specs.Borrow.{Bor}
use Rattle.rtp_extension.specs.declared.element.Element.{Element}
use Rattle.rtp_extension.specs.declared.replaced.Replaced.{Replaced}
use Rattle.rtp_extension.specs.Forms.{PlainElement}
use Rattle.rtp_extension.specs.Reading.{elements_in}
use Rattle.rtp_extension.specs.Reblocked.{replaced}

-- the contents of an element, without their place in memory
abbrev pub plain : Element → PlainElement
plain e = record { id = e.id; value = e.value.now }

-- the elements with the value put in, if that hasn't happened yet; otherwise the elements as they are
abbrev pub replaced_if : Option (Bor (List ℕ)) → ℕ → List PlainElement → List PlainElement
replaced_if None id es = es
replaced_if (Some value) id es = replaced id value.now es

-- the remaining elements
abbrev pub elements_left : Replaced → List PlainElement
elements_left r = replaced_if r.value r.id (elements_in r.form r.rest.now)
