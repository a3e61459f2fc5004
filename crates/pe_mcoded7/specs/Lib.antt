pub mod Mcoded7
