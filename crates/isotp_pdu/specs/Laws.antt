-- What holds of every frame. Each is the contract of a function of the module `laws`.
use Rattle.std.specs.Prelude.{◌≡◌, ◌≤◌, ◌⊎◌, ◌↔◌, ℕ, IsTrue, List, ◌++◌, Ok, Err}
use Rattle.can_log.specs.Frame.{FrameValue}
use Rattle.isotp_pdu.specs.declared.PduFault.{PduFault}
use Rattle.isotp_pdu.specs.declared.PduFault.TheVariants as fault
use Rattle.isotp_pdu.specs.Layout.{Layout, HasLayout, IsSoundLayout, bytes_carried, is_can_dl}
use Rattle.isotp_pdu.specs.Reading.{layout_of, are_bytes}
use Rattle.isotp_pdu.specs.Fault.{Applies, IsFault, AnnouncesWrongly}

-- the function gives a layout exactly where the frame has it
abbrev pub LayoutIsRead : Type 0
LayoutIsRead = (frame : FrameValue) (layout : Layout) → HasLayout frame layout ↔ (layout_of frame ≡ Ok layout)

-- the function gives a fault exactly where it is the lowest that applies
abbrev pub FaultIsRead : Type 0
FaultIsRead = (frame : FrameValue) (e : PduFault) → IsFault e frame ↔ (layout_of frame ≡ Err e)

-- a frame has at most one layout
abbrev pub AtMostOneLayout : Type 0
AtMostOneLayout = (frame : FrameValue) (a b : Layout) → HasLayout frame a → HasLayout frame b → a ≡ b

-- a frame has at most one fault
abbrev pub AtMostOneFault : Type 0
AtMostOneFault = (frame : FrameValue) (a b : PduFault) → IsFault a frame → IsFault b frame → a ≡ b

-- a frame has a layout or a fault
abbrev pub LayoutOrFault : Type 0
LayoutOrFault = (frame : FrameValue) → ((layout : Layout) × HasLayout frame layout) ⊎ ((e : PduFault) × IsFault e frame)

-- and not both: no fault applies to a frame that has a layout
abbrev pub LayoutHasNoFault : Type 0
LayoutHasNoFault = (frame : FrameValue) (layout : Layout) (e : PduFault) → HasLayout frame layout → ¬ Applies e frame

-- each layout that a frame has is sound
abbrev pub LayoutIsSound : Type 0
LayoutIsSound = (frame : FrameValue) (layout : Layout) → HasLayout frame layout → IsSoundLayout layout

-- the bytes that a layout carries are in the frame, one after another
abbrev pub CarriedBytesAreOfFrame : Type 0
CarriedBytesAreOfFrame = (frame : FrameValue) (layout : Layout) → HasLayout frame layout
    → (front : List ℕ) × (back : List ℕ) × (frame.bytes ≡ front ++ (bytes_carried layout ++ back))

-- a data length of a CAN frame is at most 64
abbrev pub CanDlIsAtMost64 : Type 0
CanDlIsAtMost64 = (n : ℕ) → IsTrue (is_can_dl n) → n ≤ 64

-- what is wrong with a first frame of bytes that is refused for its length
abbrev pub FirstLengthMeans : Type 0
FirstLengthMeans = (frame : FrameValue) → IsTrue (are_bytes frame.bytes) → IsFault fault.FirstLength frame → AnnouncesWrongly frame.bytes
