pub mod WordLaws
pub mod CutLaws
pub mod CallLaws
