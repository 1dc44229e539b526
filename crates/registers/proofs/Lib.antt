pub mod PastLaws
