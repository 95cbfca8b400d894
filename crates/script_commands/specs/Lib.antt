pub mod AloneEditors
pub mod MultiValueEditors
pub mod SectionEditors
pub mod Session
pub mod ValueEditors
