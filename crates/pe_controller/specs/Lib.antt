pub mod Controller
